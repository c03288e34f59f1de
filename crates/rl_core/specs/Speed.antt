-- For speed alone: what is kept of a node while its mind stays, and what a glance by it tells.
use Rattle.std.specs.Prelude.{◌≡◌, ℕ, ◌<◌, Bool, true, false, is_some, List, length, slice_index_or, Some, None, if◌then◌else◌}
use Rattle.rl_base.specs.declared.ids.BoxId.{BoxId}
use Rattle.rl_base.specs.declared.layout.NodeKind.TheVariants as nodes
use Rattle.rl_base.specs.Layout.{node_count, word_count}
use Rattle.rl_words.specs.Stamps.{payload_in}
use Rattle.rl_tables.specs.declared.table.Tables.{Tables}
use Rattle.rl_tables.specs.Starts.{layout_of}
use Rattle.rl_steps.specs.declared.mind.Mind.{Mind}
use Rattle.rl_steps.specs.declared.mind.Mind.TheVariants.{Box, Machine}
use Rattle.rl_steps.specs.Numbers.{node_at}
use Rattle.rl_steps.specs.Step.{node_step, target_of, is_ready}
use Rattle.rl_steps.specs.State.{CoreState}
use Rattle.rl_steps.specs.Turn.{next_place}
use Rattle.rl_core.specs.declared.look.Look.{Look}
use Rattle.rl_core.specs.declared.look.Look.TheVariants as looks
use Rattle.rl_core.specs.declared.speed.Glance.{Glance}
use Rattle.rl_core.specs.declared.speed.Glance.TheVariants as glances
use Rattle.rl_core.specs.declared.speed.Watch.{Watch}
use Rattle.rl_core.specs.declared.speed.Watch.TheVariants.{At, Scans, Rarely}
use Rattle.rl_core.specs.declared.speed.Rare.TheVariants.{Closely, Rests, Awaits}
use Rattle.rl_core.specs.Looks.{IsLook}

-- whatever place it scans, node n looks with this mind at word w, and has no step there while the word is this
pub record WatchesWord (tables : Tables) (n : ℕ) (mind : Mind) (w was : ℕ) : Type 0 where
  pub target : (scan : ℕ) → target_of tables n mind scan ≡ Some w
  pub within : w < word_count (layout_of tables)
  pub none : node_step tables n mind w (payload_in was) ≡ None
  pub unready : is_ready mind ≡ false

-- a box that has asked its machine for the points
abbrev pub waits_of : Mind → Bool
waits_of (Box m) = is_some m.waiting
waits_of mind = false

-- node n is box b, has nothing in hand with this mind, and waits for its points or doesn't
abbrev pub IsScanning : Tables → (n : ℕ) → Mind → (b : BoxId) → (waits : Bool) → Type 0
IsScanning tables n mind b waits =
    (node_at (layout_of tables) n ≡ Some (nodes.Box b)) × (is_ready mind ≡ true) × (waits ≡ waits_of mind)

-- the watch is right of node n with this mind, whatever the words say
abbrev pub IsWatch : Tables → (n : ℕ) → Mind → Watch → Type 0
IsWatch tables n mind (At w was) = WatchesWord tables n mind w.0 was
IsWatch tables n mind (Scans b) = IsScanning tables n mind b false
IsWatch tables n mind (Rarely Closely) = Unit {0}
IsWatch tables n mind (Rarely Rests) = ((scan : ℕ) → target_of tables n mind scan ≡ None) × (is_ready mind ≡ false)
IsWatch tables n mind (Rarely (Awaits b)) = IsScanning tables n mind b true

-- each node has a watch, and it is right of the node's mind
pub record AreWatches (tables : Tables) (minds : List Mind) (watches : List Watch) : Type 0 where
  pub size : length watches ≡ node_count (layout_of tables)
  pub each : (n : ℕ) → n < node_count (layout_of tables)
      → IsWatch tables n (slice_index_or minds n (Machine record {})) (slice_index_or watches n (Rarely Closely))

-- what is kept of a node that isn't a ready box, by what it saw, and of a ready box
abbrev pub watch_by : Look → Watch
watch_by looks.Rests = Rarely Rests
watch_by (looks.Idles w was) = At w was
watch_by (looks.Steps w was payload mind) = Rarely Closely

abbrev pub watch_scanning : BoxId → Bool → Watch
watch_scanning b waits = if waits then Rarely (Awaits b) else Scans b

-- a glance as a look, and whether it is that of a ready box
abbrev pub look_of : Glance → Look
look_of glances.Rests = looks.Rests
look_of (glances.Idles w was) = looks.Idles w was
look_of (glances.Scans w was next) = looks.Idles w was

abbrev pub ready_of : Glance → Bool
ready_of glances.Rests = false
ready_of (glances.Idles w was) = false
ready_of (glances.Scans w was next) = true

-- the place at which a ready box scans next
abbrev pub IsNext : Tables → (scan : ℕ) → Glance → Type 0
IsNext tables scan glances.Rests = Unit {0}
IsNext tables scan (glances.Idles w was) = Unit {0}
IsNext tables scan (glances.Scans w was next) = next ≡ next_place tables scan

-- it rests or has no step on what it sees, and is a ready box or isn't
pub record IsGlance (tables : Tables) (c : CoreState) (n scan : ℕ) (glance : Glance) : Type 0 where
  pub look : IsLook tables c n scan (look_of glance)
  pub ready : ready_of glance ≡ is_ready (c.minds n)
  pub next : IsNext tables scan glance
