use Rattle.std.proofs.Common.{◌++◌, sym, ◌∙◌, ap}
use Rattle.std.specs.List.{range_with_len}
use Rattle.json_core.specs.Json.{comma, host_entry_json, separated}
use Rattle.json_core.proofs.ArrayLaws.{put_next, put_none, range_first, range_next}
use Rattle.json_core.proofs.names.push_each_host.Goals as goal

pub loop-host-init : goal.loop-host-init
loop-host-init c = put_none (host_entry_json c.args.hosts.now) c.args.text.now.items

pub loop-host-preserved : goal.loop-host-preserved
loop-host-preserved c =
    let item = host_entry_json c.args.hosts.now in
    let host = c.loop-host.host in
    put_next item (range_with_len 0 host) host c.args.text.now.items c.loop-host.text.items c.push_comma.new.text.items c.push_host_entry.new.text.items
    c.loop-host.invariant
    (c.in_ok-push_comma.ensures ∙ ap (λ b. c.loop-host.text.items ++ comma b) (range_first host))
    c.in_ok-push_host_entry.ensures
    ∙ ap (λ xs. c.args.text.now.items ++ separated item xs) (sym (range_next host))
