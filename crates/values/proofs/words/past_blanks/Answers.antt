use Rattle.std.proofs.Common.{◌≡◌, not, rules, tests, arith}
use Rattle.std.specs.List.{position_or_len}
use Rattle.std.proofs.lemmas.Iterator.{YieldsList-from_slice}
use Rattle.std.proofs.lemmas.Iterator.Search.{position_from_yields_List}
use Rattle.std.proofs.lemmas.Grind.{common_steps}
use Rattle.values.specs.Words.{is_blank}
use Rattle.values.proofs.Firsts.{stops_at}
use Rattle.values.proofs.words.past_blanks.Goals as goal

pub returns : goal.returns
returns c =
    let p = position_from_yields_List (λ b. not (is_blank b)) _ _ c.position.result c.position.ensures.ran (YieldsList-from_slice c.args.text.now cc) (λ x b q k. search (rules, tests)) in
    let e : c.unwrap_or-start.result ≡ position_or_len (λ b. not (is_blank b)) c.args.text.now = stops_at _ _ _ _ p c.unwrap_or-start.ensures in
    grind (arith, common_steps)
