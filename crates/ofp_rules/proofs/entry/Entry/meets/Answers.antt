use Rattle.ofp_rules.proofs.MeetingLemmas.{meet_exactly}
use Rattle.ofp_rules.proofs.entry.Entry.meets.Goals as goal

pub returns : goal.returns
returns c =
    rw c.entries_meet.ensures.exact (meet_exactly c.args.self.now c.args.other.now c.entries_meet.ensures.entry c.entries_meet.ensures.other)
