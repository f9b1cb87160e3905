use Rattle.std.proofs.Common.{rules}
use Rattle.listing.proofs.Sounds.{sound_formed}
use Rattle.listing.proofs.routine.Routine.listing.Goals as goal

pub returns : goal.returns
returns c = record { is = search rules; sound = sound_formed c.args.self.now.listing c.args.self.now.holds }
