use Rattle.std.proofs.Common.{take, drop, ap, ◌∙◌, rules, tests}
use Rattle.std.specs.List.{position_or_len}
use Rattle.std.proofs.lemmas.Iterator.{YieldsList-from_slice}
use Rattle.std.proofs.lemmas.Iterator.Search.{position_from_yields_List}
use Rattle.values.specs.Words.{ends_word}
use Rattle.values.proofs.Firsts.{stops_at}
use Rattle.values.proofs.words.split_word.Goals as goal

pub returns-clause-word : goal.returns-clause-word
returns-clause-word c =
    let p = position_from_yields_List ends_word _ _ c.position.result c.position.ensures.ran (YieldsList-from_slice c.past_blanks-text.result.now cc) (λ x b q k. search (rules, tests)) in
    let e = stops_at _ _ _ _ p c.unwrap_or-end.ensures in
    c.split_at.ensures.front ∙ ap (λ n. take n c.past_blanks-text.result.now) e ∙ ap (λ s. take (position_or_len ends_word s) s) c.past_blanks-text.ensures

pub returns-clause-rest : goal.returns-clause-rest
returns-clause-rest c =
    let p = position_from_yields_List ends_word _ _ c.position.result c.position.ensures.ran (YieldsList-from_slice c.past_blanks-text.result.now cc) (λ x b q k. search (rules, tests)) in
    let e = stops_at _ _ _ _ p c.unwrap_or-end.ensures in
    c.split_at.ensures.back ∙ ap (λ n. drop n c.past_blanks-text.result.now) e ∙ ap (λ s. drop (position_or_len ends_word s) s) c.past_blanks-text.ensures
