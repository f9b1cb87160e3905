use Rattle.std.proofs.Common.{◌≡◌, ℕ, ◌+◌, length, drop, Ok, Err, sym, ap, ◌∙◌, ◌==◌, rules, tests, of_calls, arith}
use Rattle.std.proofs.lemmas.Iterator.Consumers.{YieldsList-turn, YieldsList-end, YieldsList-from_enumerate}
use Rattle.std.proofs.lemmas.Iterator.Splits.{YieldsList-from_slice_split}
use Rattle.std.proofs.lemmas.List.FromFn.{length-enumerate_from}
use Rattle.std.proofs.lemmas.List.{length_push}
use Rattle.values.proofs.Lines.{pieces, by_pieces, by_piece, no_pieces, numbered, with_line, maps_to, taken, refused}
use Rattle.values.specs.declared.draft.Draft.{Draft}
use Rattle.values.specs.Values.{at_line, values_from, empty_draft}
use Rattle.values.proofs.reading.read_values.Goals as goal

pub loop-above-init : goal.loop-above-init
loop-above-init c =
    let t = c.args.routine.now.listing in
    let s = c.args.text.now in
    (search of_calls, search of_calls, ap (λ d. values_from t 0 (pieces s) d) c.empty-draft.ensures ∙ by_pieces t s empty_draft)

pub returns-in_err-map_err : goal.returns-in_err-map_err
returns-in_err-map_err c =
    let t = c.args.routine.now.listing in
    let s = c.args.text.now in
    let n = length c.loop-above.yielded in
    let y = YieldsList-turn (YieldsList-from_enumerate (YieldsList-from_slice_split _ (λ b. b == 10) s (cc) (cc) (cc) (λ x b q k. search (rules, tests))) (cc)) c.loop-above.yielded _ c.loop-above.yielded_by _ _ _ c.in-Some.is c.next.ensures.steps in
    let h = numbered (pieces s) n _ _ y in
    let k = λ (d : Draft). values_from t (n + 1) (drop (n + 1) (pieces s)) d in
    let m =
    maps_to (c.in-Some.above + 1) c.put_line.result c.map_err.result _ c.map_err.ensures.cases (λ e f p. search rules)
    ∙ ap (λ (i : ℕ). with_line (i + 1) c.put_line.result) h.1 in
    let r : Err c.in_err-map_err.field-0.0 ≡ at_line (n + 1) _ k = refused (n + 1) c.map_err.result c.put_line.new.self _ _ _ k m c.in_err-map_err.was c.put_line.ensures in
    let e : c.from_residual.result ≡ Err c.in_err-map_err.field-0.0 = search rules in
    e ∙ r ∙ sym (by_piece t (pieces s) n c.loop-above.draft _ h.0 h.2) ∙ c.loop-above.invariant.2

pub loop-above-preserved : goal.loop-above-preserved
loop-above-preserved c =
    let t = c.args.routine.now.listing in
    let s = c.args.text.now in
    let n = length c.loop-above.yielded in
    let y = YieldsList-turn (YieldsList-from_enumerate (YieldsList-from_slice_split _ (λ b. b == 10) s (cc) (cc) (cc) (λ x b q k. search (rules, tests))) (cc)) c.loop-above.yielded _ c.loop-above.yielded_by _ _ _ c.in-Some.is c.next.ensures.steps in
    let h = numbered (pieces s) n _ _ y in
    let k = λ (d : Draft). values_from t (n + 1) (drop (n + 1) (pieces s)) d in
    let m =
    maps_to (c.in-Some.above + 1) c.put_line.result c.map_err.result _ c.map_err.ensures.cases (λ e f p. search rules)
    ∙ ap (λ (i : ℕ). with_line (i + 1) c.put_line.result) h.1 in
    let r = taken (n + 1) c.map_err.result c.put_line.new.self _ _ _ m c.in_ok-map_err.was c.put_line.ensures in (
      search of_calls,
      search of_calls,
      ap (λ (i : ℕ). values_from t i (drop i (pieces s)) c.put_line.new.self) (length_push c.loop-above.yielded _)
          ∙ ap (λ o. at_line (n + 1) o k) r
          ∙ sym (by_piece t (pieces s) n c.loop-above.draft _ h.0 h.2)
          ∙ c.loop-above.invariant.2,
    )

pub returns : goal.returns
returns c =
    let t = c.args.routine.now.listing in
    let s = c.args.text.now in
    let y = YieldsList-end (YieldsList-from_enumerate (YieldsList-from_slice_split _ (λ b. b == 10) s (cc) (cc) (cc) (λ x b q k. search (rules, tests))) (cc)) c.loop-above.yielded _ c.loop-above.yielded_by _ _ c.in-None.is c.next.ensures.steps in
    ap Ok c.memory.ensures ∙ sym (no_pieces t (pieces s) (length c.loop-above.yielded) c.loop-above.draft (omega (arith, y.1, length-enumerate_from 0 (pieces s)))) ∙ c.loop-above.invariant.2
