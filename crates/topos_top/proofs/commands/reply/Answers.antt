use Rattle.topos_top.proofs.commands.reply.Goals as goal

pub returns-in-Check-clause-reply : goal.returns-in-Check-clause-reply
returns-in-Check-clause-reply g c = rw c.in-Check.is c.reply.ensures

pub returns-in-Policy-clause-reply : goal.returns-in-Policy-clause-reply
returns-in-Policy-clause-reply g c = rw c.in-Policy.is c.reply-in-Policy.ensures

pub returns-in-Rules-clause-reply : goal.returns-in-Rules-clause-reply
returns-in-Rules-clause-reply g c = rw c.in-Rules.is c.reply-in-Rules.ensures

pub returns-in-Repair-clause-reply : goal.returns-in-Repair-clause-reply
returns-in-Repair-clause-reply g c = rw c.in-Repair.is c.reply-in-Repair.ensures

pub returns-in-Migrate-clause-reply : goal.returns-in-Migrate-clause-reply
returns-in-Migrate-clause-reply g c = rw c.in-Migrate.is c.reply-in-Migrate.ensures

pub returns-in-Trace-clause-reply : goal.returns-in-Trace-clause-reply
returns-in-Trace-clause-reply g c = rw c.in-Trace.is c.reply-in-Trace.ensures

pub returns-in-Audit-clause-reply : goal.returns-in-Audit-clause-reply
returns-in-Audit-clause-reply g c = rw c.in-Audit.is c.reply-in-Audit.ensures

pub returns-in-Local-clause-reply : goal.returns-in-Local-clause-reply
returns-in-Local-clause-reply g c = rw c.in-Local.is c.reply-in-Local.ensures

pub returns-in-LocalTable-clause-reply : goal.returns-in-LocalTable-clause-reply
returns-in-LocalTable-clause-reply g c = rw c.in-LocalTable.is c.reply-in-LocalTable.ensures

pub returns-in-Edit-clause-reply : goal.returns-in-Edit-clause-reply
returns-in-Edit-clause-reply g c = rw c.in-Edit.is c.reply-in-Edit.ensures
