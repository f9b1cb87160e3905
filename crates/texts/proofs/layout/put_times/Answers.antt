use Rattle.std.proofs.Common.{string_bytes}
use Rattle.texts.proofs.Adding.{turned, times_step}
use Rattle.texts.proofs.layout.put_times.Goals as goal

pub loop-preserved : goal.loop-preserved
loop-preserved c =
    turned (string_bytes c.loop.out) _ _ _ (string_bytes c.push_str.new.self) _
    c.in_ok-push_str.ensures.bytes
    (times_step c.args.count c.loop.counter c.args.text.now c.loop-test.true)
    c.loop.invariant
