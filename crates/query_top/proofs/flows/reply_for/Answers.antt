use Rattle.query_top.proofs.flows.reply_for.Goals as goal

pub returns-in-Iptables : goal.returns-in-Iptables
returns-in-Iptables g c = rw c.in-Iptables.is c.chains_reply.ensures

pub returns-in-OpenFlow : goal.returns-in-OpenFlow
returns-in-OpenFlow g c = rw c.in-OpenFlow.is c.entries_reply.ensures

pub returns-in-Nft : goal.returns-in-Nft
returns-in-Nft g c = rw c.in-Nft.is c.table_reply.ensures
