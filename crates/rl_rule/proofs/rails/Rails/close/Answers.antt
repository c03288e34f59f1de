use Rattle.std.proofs.Common.{◌≡◌, ◌∙◌}
use Rattle.core.specs.Mem.Slots.{slots_items}
use Rattle.rl_rule.proofs.Closings.{last_log, merged_replay}
use Rattle.rl_rule.proofs.rails.Rails.close.Goals as goal

pub returns-clause-line : goal.returns-clause-line
returns-clause-line c =
    let rails = c.args.self in
    let closed = c.close_with-closed.result in
    let last = last_log rails.table.shared.key.line.value rails.table.shared.key.tries rails.root.id rails.root.me.0 (slots_items closed.words)
    (slots_items closed.slots) rails.role c.requires c.close_with-closed.ensures.values.2 in
    rw (← rails.line) last.1.line

pub returns-clause-tries : goal.returns-clause-tries
returns-clause-tries c =
    let rails = c.args.self in
    let closed = c.close_with-closed.result in
    let last = last_log rails.table.shared.key.line.value rails.table.shared.key.tries rails.root.id rails.root.me.0 (slots_items closed.words)
    (slots_items closed.slots) rails.role c.requires c.close_with-closed.ensures.values.2 in
    rw (← rails.tries) last.1.few_tries

pub returns-clause-run : goal.returns-clause-run
returns-clause-run c =
    let rails = c.args.self in
    let closed = c.close_with-closed.result in
    let words : c.from_vec.result ≡ slots_items closed.words = c.from_vec.ensures ∙ c.closed_words-words.ensures in
    let last = last_log rails.table.shared.key.line.value rails.table.shared.key.tries rails.root.id rails.root.me.0 (slots_items closed.words)
    (slots_items closed.slots) rails.role c.requires c.close_with-closed.ensures.values.2 in
    rw (words, ← rails.line, ← rails.tries) (last.0, last.1.replay)

pub returns-clause-merge : goal.returns-clause-merge
returns-clause-merge c =
    let rails = c.args.self in
    let closed = c.close_with-closed.result in
    let words : c.from_vec.result ≡ slots_items closed.words = c.from_vec.ensures ∙ c.closed_words-words.ensures in
    let last = last_log rails.table.shared.key.line.value rails.table.shared.key.tries rails.root.id rails.root.me.0 (slots_items closed.words)
    (slots_items closed.slots) rails.role c.requires c.close_with-closed.ensures.values.2 in
    λ merged merge.
    rw (words, ← rails.line, ← rails.tries)
    (merged_replay c.merged_runs.ensures.run rails.table.shared.key.line.value rails.table.shared.key.tries rails.root.me.0.taken
    (slots_items closed.words) last.0 merged last.1 merge)
