use Rattle.std.proofs.Common.{ℕ, ◌≤◌, ◌<◌, ◌^◌, arith}
use Rattle.header_space.proofs.packet_box.PacketBox.last.Goals as goal

below : (a b n : ℕ) → a ≤ b → b < n → a < n
below a b n low fits = omega (arith, low, fits)

pub returns-clause-packets : goal.returns-clause-packets
returns-clause-packets c = λ p inside. (
  below p.src c.args.self.now.greatest.src (2 ^ 32) inside.below.src c.address.ensures.fits,
  below p.dst c.args.self.now.greatest.dst (2 ^ 32) inside.below.dst c.address-2.ensures.fits,
  below p.proto c.args.self.now.greatest.proto (2 ^ 8) inside.below.proto c.protocol.ensures.fits,
  below p.sport c.args.self.now.greatest.sport (2 ^ 16) inside.below.sport c.port.ensures.fits,
  below p.dport c.args.self.now.greatest.dport (2 ^ 16) inside.below.dport c.port-2.ensures.fits,
)
