use Rattle.std.proofs.Common.{sym, ap, subst, ◌∙◌}
use Rattle.header_space.specs.declared.packet_box.PacketBox.{PacketBox}
use Rattle.header_space.specs.declared.field.Field.TheVariants.{Dst, Proto, Sport, Dport}
use Rattle.header_space.specs.inner.Fields.{up_to}
use Rattle.header_space.specs.inner.Splitting.{Splits}
use Rattle.header_space.proofs.SplitLaws.{splits_then}
use Rattle.header_space.proofs.split.split.Goals as goal

pub returns : goal.returns
returns c =
    let whole = c.args.whole in
    let part = c.args.part in
    let old = c.args.boxes.now.items in
    let one = c.in_ok-left.left in
    let two = c.in_ok-left-2.left in
    let three = c.in_ok-left-3.left in
    let four = c.in_ok-left-4.left in
    let same = c.in_ok-_part.ensures.part
    ∙ ap (λ (x : PacketBox). up_to Dport x part.greatest.dport) (c.in_ok-left-4.ensures.part
    ∙ ap (λ (x : PacketBox). up_to Sport x part.greatest.sport) (c.in_ok-left-3.ensures.part
    ∙ ap (λ (x : PacketBox). up_to Proto x part.greatest.proto) (c.in_ok-left-2.ensures.part
    ∙ ap (λ (x : PacketBox). up_to Dst x part.greatest.dst) c.in_ok-left.ensures.part)))
    ∙ (λ i. record { least = sym c.requires.part.least i; greatest = part.greatest }) in
    subst (λ (x : PacketBox). Splits whole old c.split_at-5.new.boxes.items x) same
    (splits_then whole four c.in_ok-_part._part old c.split_at-4.new.boxes.items c.split_at-5.new.boxes.items
    (splits_then whole three four old c.split_at-3.new.boxes.items c.split_at-4.new.boxes.items
    (splits_then whole two three old c.split_at-2.new.boxes.items c.split_at-3.new.boxes.items
    (splits_then whole one two old c.split_at.new.boxes.items c.split_at-2.new.boxes.items c.in_ok-left.ensures.splits c.in_ok-left-2.ensures.splits)
    c.in_ok-left-3.ensures.splits) c.in_ok-left-4.ensures.splits) c.in_ok-_part.ensures.splits)
