use Rattle.query_top.proofs.commands.reply.Goals as goal

pub returns-in-Why : goal.returns-in-Why
returns-in-Why g c = rw c.in-Why.is c.reply.ensures

pub returns-in-Network : goal.returns-in-Network
returns-in-Network g c = rw c.in-Network.is c.reply-in-Network.ensures

pub returns-in-Flows : goal.returns-in-Flows
returns-in-Flows g c = rw c.in-Flows.is c.reply-in-Flows.ensures

pub returns-in-Compare : goal.returns-in-Compare
returns-in-Compare g c = rw c.in-Compare.is c.reply-in-Compare.ensures

pub returns-in-Changes : goal.returns-in-Changes
returns-in-Changes g c = rw c.in-Changes.is c.reply-in-Changes.ensures
