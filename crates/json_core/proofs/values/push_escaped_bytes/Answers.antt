use Rattle.std.proofs.Common.{append-nil, sym}
use Rattle.json_core.proofs.PushLaws.{put_byte}
use Rattle.json_core.proofs.values.push_escaped_bytes.Goals as goal

pub loop-byte-init : goal.loop-byte-init
loop-byte-init c = sym (append-nil c.args.text.now.items)

pub loop-byte-preserved : goal.loop-byte-preserved
loop-byte-preserved c =
    put_byte c.args.bytes.now c.loop-byte.byte-index c.args.text.now.items c.loop-byte.text.items c.push_escaped_byte.new.text.items
    c.loop-byte-test.true c.loop-byte.invariant c.in_ok-push_escaped_byte.ensures
