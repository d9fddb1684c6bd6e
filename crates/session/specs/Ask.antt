-- Where the lines that ask stand.
-- Assumes nothing.
use Rattle.std.specs.Prelude.{◌≡◌, List, ◌++◌, ℕ, ◌≤◌, length}
use Rattle.paper.specs.Adding.{Hub}
use Rattle.paper.specs.Session.{bench, asking, answers}
use Rattle.paper.proofs.Same.{SameHub}
use Rattle.list_laws.specs.Over.{over}
use Rattle.text.specs.Parts.{parts_from}
use Rattle.tables.specs.Tables.{Tables, changes, edges, actors}
use Rattle.tables.specs.Valid.{Valid}
use Rattle.judge.specs.Hub.{hub}
use Rattle.session_line.specs.Step.{Bench}

-- line n starts at cur of the input s; the tables t hold the session's graph; what was said so far stands in the buffer up to `at`; and the answer
-- `text` is that and what the lines from here on say
pub record Asking (s text out₀ : List ℕ) (t : Tables) (n at cur : ℕ) (out : List ℕ) : Type 0 where
  pub here : Hub
  pub same : SameHub (hub t) here
  pub valid : Valid t
  pub room : Bench (hub t)
  pub done : List ℕ
  pub place : at ≡ length done
  pub fits : at ≤ length out₀
  pub is : out ≡ over out₀ 0 done
  pub size : length out ≡ length out₀
  pub rest : text ≡ done ++ answers (asking here) n (parts_from 10 s cur)
  pub inside : cur ≤ length s
  pub low : n ≤ cur

-- the tables hold an empty graph of the bench room
pub record Fresh (t : Tables) : Type 0 where
  pub valid : Valid t
  pub room : Bench (hub t)
  pub same : SameHub (hub t) (bench (actors t))

-- tables of the bench room with n actors and nothing else in use
pub record Empty (t : Tables) (n : ℕ) : Type 0 where
  pub hashes_long : length t.hashes ≡ 8192
  pub nodes_long : length t.nodes ≡ 1536
  pub targets_long : length t.targets ≡ 1024
  pub nexts_long : length t.nexts ≡ 1024
  pub clocks_long : length t.clocks ≡ 4096
  pub counts_long : length t.counts ≡ 3
  pub no_changes : changes t ≡ 0
  pub no_edges : edges t ≡ 0
  pub actors_are : actors t ≡ n

-- the tables have their lengths still
pub record Kept (t₀ t : Tables) : Type 0 where
  pub hashes : length t.hashes ≡ length t₀.hashes
  pub nodes : length t.nodes ≡ length t₀.nodes
  pub targets : length t.targets ≡ length t₀.targets
  pub nexts : length t.nexts ≡ length t₀.nexts
  pub clocks : length t.clocks ≡ length t₀.clocks
  pub counts : length t.counts ≡ length t₀.counts
