use Rattle.std.proofs.Common.{arith}
use Rattle.decide_core.proofs.service_block.ServiceBlock.packets.Goals as goal

pub returns-clause-exact : goal.returns-clause-exact
returns-clause-exact c = λ p. (
  λ inside. record {
    packet = c.last-greatest.ensures.packets p inside;
    src = (inside.above.src, inside.below.src);
    dst = (inside.above.dst, inside.below.dst);
    low_proto = inside.above.proto;
    high_proto = inside.below.proto;
    low_port = inside.above.dport;
    high_port = inside.below.dport;
  },
  λ has. record {
    above = record { src = has.src.0; dst = has.dst.0; proto = has.low_proto; sport = omega arith; dport = has.low_port };
    below = record {
      src = has.src.1;
      dst = has.dst.1;
      proto = has.high_proto;
      sport = let port = has.packet.3 in omega (arith, port);
      dport = has.high_port;
    };
  },
)
