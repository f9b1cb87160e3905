use Rattle.std.proofs.Common.{◌+◌, [], length, take}
use Rattle.verdict.proofs.Parts.{cut, parted_at, unparted}
use Rattle.verdict.proofs.input.slip_on.Goals as goal

pub returns-in-Some : goal.returns-in-Some
returns-in-Some c =
    let s = c.args.input.now in
    let e = c.in-Some.end in
    let h = c.in-Some.ensures {u = tt} in
    record {
      digits = take e s;
      listing = cut (e + 1) (length s) s;
      parted = parted_at s e h.0 h.1 h.2;
      slip = c.judge.result;
      judged = c.judge.ensures;
      text_is = c.slip_text.ensures;
    }

pub returns-in-None : goal.returns-in-None
returns-in-None c =
    let s = c.args.input.now in
    record {
      digits = s;
      listing = [];
      parted = unparted s (c.in-None.ensures {u = tt});
      slip = c.judge-in-None.result;
      judged = c.judge-in-None.ensures;
      text_is = c.slip_text-in-None.ensures;
    }
