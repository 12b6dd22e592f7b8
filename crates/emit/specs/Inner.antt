-- INNER: for the contracts of the emitter and of the writers that feed it. P is any set of voxels, by their numbers. Definitions only.
use Rattle.std.specs.Prelude.{◌≡◌, Bool, true, false, ℕ, ◌+◌, ◌*◌, ◌^◌, ◌<◌, ◌≤◌, length}
use mathlib.Core.List.{List, Memᴰ}
use Rattle.std.proofs.lemmas.List.Edits.{sets}
use Rattle.cells.specs.Answer.{deepest}
use Rattle.records.specs.Inner.{White}
use Rattle.records.specs.Record.{black, Ordered, Good}
use Rattle.emit.specs.declared.inner.Runs.{Runs}
use Rattle.emit.specs.declared.inner.Emitter.{Emitter}

-- w is the span of the biggest cell that starts at p and ends at or before `to`
pub record Fit (p to w : ℕ) : Type 0 where
  pub k : ℕ
  pub q : ℕ
  pub wide : w ≡ 8 ^ k
  pub even : p ≡ q * w
  pub fits : p + w ≤ to
  pub most : (m : ℕ) → p ≡ m * (8 * w) → p + 8 * w ≤ to → ⊥

-- the pending run [from, to) lies before voxel pos, and no more codes than voxels stand before it
pub record Ready (D : ℕ) (r : Runs) (pos : ℕ) : Type 0 where
  pub run : r.from ≤ r.to
  pub past : r.to ≤ pos
  pub few : r.at ≤ r.from
  pub root : pos ≤ 8 ^ D

-- the piece [from, to) comes next: the voxels before it are known, and it lies within the root
pub record Next (D : ℕ) (r : Runs) (from to : ℕ) : Type 0 where
  pub deep : D ≤ deepest
  pub ready : Ready D r from
  pub some : from < to
  pub root : to ≤ 8 ^ D

-- no pending run at pos, after n codes
abbrev pub fresh : ℕ → ℕ → Runs
fresh pos n = record { from = pos; to = pos; at = n }

-- the codes put over o so far, n of them: they hold the voxels of P below `from`, and the parent of each first child among them has a white voxel
pub record Laid (D : ℕ) (P : ℕ → Bool) (o out : List ℕ) (from n : ℕ) : Type 0 where
  pub cells : List ℕ
  pub ordered : Ordered D 0 cells
  pub below : (v : ℕ) → v < from → black D cells v ≡ P v
  pub above : (v : ℕ) → from ≤ v → black D cells v ≡ false
  pub capped : (q : ℕ) → Memᴰ (8 * q) cells → White D P q
  pub count : n ≡ length cells
  pub written : out ≡ sets o 0 cells

-- the emitter's state where P is known below pos: the codes stand for P below `from`, [from, to) is black and [to, pos) white
pub record Emitted (D : ℕ) (P : ℕ → Bool) (o out : List ℕ) (pos : ℕ) (r : Runs) : Type 0 where
  pub codes : Laid D P o out r.from r.at
  pub run : (v : ℕ) → r.from ≤ v → v < r.to → P v ≡ true
  pub gap : (v : ℕ) → r.to ≤ v → v < pos → P v ≡ false

-- What any writer does that goes through the voxels from `from` up to `to` and feeds the emitter with P's colours there: it takes the state r to s.
-- Writers one after the other make one writer; `finish` ends them all.
pub record Fed (D : ℕ) (P : ℕ → Bool) (from to : ℕ) (out : List ℕ) (r : Runs) (out' : List ℕ) (s : Runs) : Type 0 where
  pub ready : Ready D s to
  pub emits : (o : List ℕ) → Emitted D P o out from r → Emitted D P o out' to s

-- such a writer takes the emitter m to n
abbrev pub Feeds : ℕ → (ℕ → Bool) → ℕ → ℕ → Emitter → Emitter → Type 0
Feeds D P from to m n = Fed D P from to m.out.now m.runs n.out.now n.runs

-- the end: the good list of the voxels of P is put over o, and n is its length
pub record Result (D : ℕ) (P : ℕ → Bool) (o out : List ℕ) (n : ℕ) : Type 0 where
  pub cells : List ℕ
  pub good : Good D cells
  pub same : (v : ℕ) → v < 8 ^ D → black D cells v ≡ P v
  pub count : n ≡ length cells
  pub written : out ≡ sets o 0 cells
