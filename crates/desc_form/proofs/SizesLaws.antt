-- The refusal of a list that is longer than its limit, for all limits and regardless of the rest of the description.
use Rattle.std.proofs.Common.{◌≡◌, ◌+◌, ◌<◌, ◌≤◌, List, length, Some, refl}
use Rattle.std.proofs.lemmas.Bool.{lt-ltb, le-ltb}
use Rattle.std.specs.Prelude.{slice_get}
use Rattle.desc_form.specs.Refusals.{refused, refused_item}
use Rattle.desc_form.specs.RawDescription.{RawHost, RawInvariant}
use Rattle.desc_form.specs.RawTemplate.{RawTemplate}
use Rattle.desc_form.specs.declared.refusal.Place.TheVariants.{Host}
use Rattle.desc_form.specs.declared.refusal.Why.TheVariants.{TooMany}
use Rattle.desc_form.specs.HostConditions.{Entry, too_many}
use Rattle.host_net.specs.Limits.{host_limit, prefix_limit}

-- A longer list is refused at the first element beyond the limit.
pub many_hosts : (hs : List RawHost) (es : List Entry) (is : List RawInvariant) (ts : List RawTemplate)
    → host_limit < length hs → too_many hs es is ts ≡ Some (refused TooMany (Host (host_limit + 1)))
unfolding too_many
many_hosts hs es is ts longer = let above = lt-ltb _ _ longer in rw above refl

-- If the hosts are within the limit, it is the entry after the last allowed one.
pub many_prefixes : (hs : List RawHost) (es : List Entry) (is : List RawInvariant) (ts : List RawTemplate) (e : Entry)
    → length hs ≤ host_limit → slice_get es prefix_limit ≡ Some e → too_many hs es is ts ≡ Some (refused_item TooMany (Host e.host) e.item)
unfolding too_many
many_prefixes hs es is ts e few there = let within = le-ltb host_limit (length hs) few in rw (within, there) refl
