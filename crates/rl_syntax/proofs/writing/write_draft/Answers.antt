use Rattle.std.proofs.Common.{◌≡◌, ◌≤◌, ℕ, List, Some, IsUtf8, string_bytes, subst, ◌∙◌}
use Rattle.toml.specs.Data.{members_depth}
use Rattle.toml.specs.Parse.{parse_document}
use Rattle.toml.specs.View.{table_view}
use Rattle.toml_parser.specs.Strings.{recursion_limit}
use Rattle.rl_syntax.specs.DraftTable.{draft_table}
use Rattle.rl_syntax.proofs.ReadBack.{draft_depth, read_back}
use Rattle.rl_syntax.proofs.writing.write_draft.Goals as goal

pub returns-clause-reads_back : goal.returns-clause-reads_back
returns-clause-reads_back c = λ short.
    let seen : table_view c.in_ok-table.table ≡ draft_table c.args.draft.now = c.in_ok-table.ensures in
    let bytes : c.text.new.self
    ≡ string_bytes c.in_ok-text.text = rw (c.in_ok-text-2.ensures.appended, c.new-out.ensures) (c.as_bytes.ensures.value ∙ c.as_str.ensures.value) in
    let shallow : members_depth (table_view c.in_ok-table.table) ≤ recursion_limit = rw seen (draft_depth c.args.draft.now) in
    let parsed : parse_document c.text.new.self ≡ Some (draft_table c.args.draft.now) = rw (bytes, ← seen) (c.in_ok-text.ensures.reads_back shallow) in
    let utf8 : IsUtf8 c.text.new.self = rw bytes (subst (λ (x : List ℕ). IsUtf8 x) c.as_str.ensures.value c.as_str.utf8) in
    read_back c.args.draft.now c.text.new.self c.requires short utf8 parsed
