use Rattle.std.proofs.Common.{not, rules, tests, sym, ◌∙◌}
use Rattle.std.proofs.lemmas.Iterator.{YieldsList-from_slice}
use Rattle.std.proofs.lemmas.Iterator.Adapters.{position_from-zero}
use Rattle.std.proofs.lemmas.Iterator.Search.{position_from_yields_List}
use Rattle.verdict.specs.Digits.{is_digit}
use Rattle.verdict.proofs.Digit.{wrong_from}
use Rattle.verdict.proofs.digits.first_wrong.Goals as goal

pub returns : goal.returns
returns c =
    let ds = c.args.digits.now in
    let found =
    position_from_yields_List (λ b. not (is_digit b)) _ _ c.position.result c.position.ensures.ran (YieldsList-from_slice ds cc) (λ x b q k. search (rules, tests))
    ∙ position_from-zero (λ b. not (is_digit b)) ds
    ∙ sym (wrong_from 0 ds) in
    search rules
