use Rattle.std.proofs.Common.{◌≡◌, ◌++◌, List, ℕ, ap, ◌∙◌}
use Rattle.std.specs.Prelude.{codes}
use Rattle.sample_core.proofs.CountsLemmas.{line_on}
use Rattle.sample_core.specs.Sample.{count_line, offending_lines, table_line}
use Rattle.sample_core.proofs.printed.counts_text.Goals as goal

pub returns : goal.returns
returns c =
    let counts = c.args.counts.now in
    let asked : List ℕ = c.push_count-3.new.text.items in
    let offended : c.push_offending.new.text.items ≡ asked ++ offending_lines counts.offending.items =
    c.in_ok-push_offending.ensures ∙ ap (λ (ns : List ℕ). asked ++ offending_lines ns) c.deref.ensures.value in
    let line : List ℕ → ℕ → List ℕ = count_line in
    let behind_events : List ℕ = line (codes "forwarded") counts.run.forwarded in
    let behind_table : List ℕ = line (codes "events") counts.run.events ++ behind_events in
    let behind_iptables : List ℕ = table_line counts.table ++ behind_table in
    let behind_stateful : List ℕ = line (codes "iptables") counts.run.rules ++ behind_iptables in
    let behind_permitted : List ℕ = line (codes "stateful") counts.stateful ++ behind_stateful in
    let behind_offending : List ℕ = line (codes "permitted") counts.permitted ++ behind_permitted in
    let behind_asked : List ℕ = offending_lines counts.offending.items ++ behind_offending in
    let behind_hosts : List ℕ = line (codes "asked") counts.asked ++ behind_asked in
    let behind_sample : List ℕ = line (codes "hosts") counts.hosts ++ behind_hosts in
    c.in_ok-push_count-8.ensures
    ∙ line_on c.push_table.new.text.items _ (line (codes "events") counts.run.events) behind_events _ c.in_ok-push_count-7.ensures
    (line_on c.push_count-6.new.text.items _ (table_line counts.table) behind_table _ c.in_ok-push_table.ensures
    (line_on c.push_count-5.new.text.items _ (line (codes "iptables") counts.run.rules) behind_iptables _ c.in_ok-push_count-6.ensures
    (line_on c.push_count-4.new.text.items _ (line (codes "stateful") counts.stateful) behind_stateful _ c.in_ok-push_count-5.ensures
    (line_on c.push_offending.new.text.items _ (line (codes "permitted") counts.permitted) behind_permitted _ c.in_ok-push_count-4.ensures
    (line_on asked _ (offending_lines counts.offending.items) behind_offending _ offended
    (line_on c.push_count-2.new.text.items _ (line (codes "asked") counts.asked) behind_asked _ c.in_ok-push_count-3.ensures
    (line_on c.push_count.new.text.items _ (line (codes "hosts") counts.hosts) behind_hosts _ c.in_ok-push_count-2.ensures
    (line_on c.new-text.result.items _ (line (codes "sample") c.args.count) behind_sample _ c.in_ok-push_count.ensures
    (ap (λ (text : List ℕ). text ++ (line (codes "sample") c.args.count ++ behind_sample)) c.new-text.ensures.items)))))))))
