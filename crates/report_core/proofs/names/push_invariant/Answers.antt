use Rattle.std.proofs.Common.{◌++◌, append_assoc}
use Rattle.report_core.proofs.Pushing.{pushed_last}
use Rattle.report_core.specs.Names.{invariant_text}
use Rattle.report_core.proofs.names.push_invariant.Goals as goal

pub returns : goal.returns
unfolding invariant_text
returns c =
    pushed_last c.extend_from_slice-3.result c.extend_from_slice-3.new.self.items c.extend_from_slice-2.new.self.items c.as_bytes-2.result.now
    (c.args.text.now.items ++ invariant_text c.args.number c.args.invariant.now) c.extend_from_slice-3.ensures.items
    (rw (c.in_ok-extend_from_slice-2.ensures.items, c.in_ok-extend_from_slice.ensures.items, c.as_bytes.ensures.value, c.format.ensures.text, c.as_bytes-2.ensures.value, c.template_name.ensures) (simp append_assoc))
