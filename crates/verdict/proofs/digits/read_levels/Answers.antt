use Rattle.std.proofs.Common.{map, sym, ◌∙◌, arith}
use Rattle.std.proofs.lemmas.List.{ext_get_or, get_or-map, length-map}
use Rattle.levels.specs.declared.secrecy.Secrecy.TheVariants.{Public}
use Rattle.verdict.specs.Digits.{level_of}
use Rattle.verdict.proofs.digits.read_levels.Goals as goal

pub returns : goal.returns
returns c =
    let ds = c.args.digits.now in
    let t = c.loop-place.table in
    ext_get_or Public t (map level_of ds) (omega (arith, length-map ds level_of))
    (λ k h. c.loop-place.invariant k (omega arith) ∙ sym (get_or-map level_of ds k 0 Public (omega arith)))
