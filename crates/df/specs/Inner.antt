-- INNER: for the contracts of the two descents. Definitions only.
use Rattle.std.specs.Prelude.{◌≡◌, ◌⊎◌, Bool, true, false, Option, Some, None, List, [], ◌∷◌, ◌++◌, ℕ, suc, ◌+◌, ◌*◌, ◌^◌, ◌<◌, ◌≤◌, length, get_or, drop}
use Rattle.cells.specs.Answer.{given, Decided, alone, deepest}
use Rattle.cells.specs.declared.Answer.{Answer}
use Rattle.records.specs.Record.{Good}
use Rattle.records.specs.Slot.{OfCell, slot_at}
use Rattle.records.specs.declared.inner.slots.Slot.{Slot}
use Rattle.emit.specs.Inner.{Ready, Feeds, Result}
use Rattle.emit.specs.declared.inner.Emitter.{Emitter}
use Rattle.text.specs.Inner.{Put}
use Rattle.df.specs.Df.{Tree, leaf, gray, letter, opening, texts, spell, Allowed, shows, Acceptable, WrongByte, StopsEarly}
use Rattle.df.specs.declared.inner.Head.{Head}
use Rattle.df.specs.declared.inner.Head.TheVariants.{Open, Black, White}
use Rattle.df.specs.declared.inner.reading.Cell.{Cell}

-- ---- a list spelled

-- T is the tree of the cell of number b with n levels left, where P are the black voxels
pub record TreeOf (P : ℕ → Bool) (n b : ℕ) (T : Tree) : Type 0 where
  pub allowed : Allowed n T
  pub shown : (v : ℕ) → b * 8 ^ n ≤ v → v < b * 8 ^ n + 8 ^ n → shows n T v ≡ P v

-- the text of that cell is put over the bytes o from place `at` on; r is the place after it
pub record Spelled (P : ℕ → Bool) (n b : ℕ) (o : List ℕ) (at : ℕ) (after : List ℕ) (r : ℕ) : Type 0 where
  pub tree : Tree
  pub is_tree : TreeOf P n b tree
  pub put : Put o at (spell tree) after r

-- the texts of the first m children of the cell of number b are put, each child with n levels left
pub record KidsSpelled (P : ℕ → Bool) (n b m : ℕ) (o : List ℕ) (at : ℕ) (after : List ℕ) (r : ℕ) : Type 0 where
  pub trees : ℕ → Tree
  pub are_trees : (i : ℕ) → i < m → TreeOf P n (8 * b + i) (trees i)
  pub put : Put o at (texts (λ i. spell (trees i)) m) after r

-- the text of a cell with n levels left has fewer bytes than this
abbrev pub most_bytes : ℕ → ℕ
most_bytes n = 2 * 8 ^ n

-- slot s has the leaves of a cell with n levels left, and its text can be counted from place `at` on
pub record Spelling (D : ℕ) (l : List ℕ) (n : ℕ) (s : Slot) (at : ℕ) : Type 0 where
  pub good : Good D l
  pub held : OfCell D l n s
  pub room : at + most_bytes n ≤ most_bytes deepest

-- the slots p have the leaves of eight cells with n levels left, and their texts can be counted from place `at` on
pub record KidsSpelling (D : ℕ) (l : List ℕ) (n : ℕ) (p : List Slot) (at : ℕ) : Type 0 where
  pub good : Good D l
  pub held : (m : ℕ) → m < 8 → OfCell D l n (slot_at p m)
  pub room : at + most_bytes (suc n) ≤ suc (most_bytes deepest)

-- ---- a text read

-- the bytes of t from place a up to place e are p
pub record Reads (t : List ℕ) (a : ℕ) (p : List ℕ) (e : ℕ) : Type 0 where
  pub rest : drop a t ≡ p ++ drop e t
  pub place : e ≡ a + length p
  pub within : e ≤ length t

-- p begins the text of a cell with n levels left, and does not end it: it has nothing, or more follows in a gray cell
abbrev pub Half : ℕ → List ℕ → Type 0
Half n p = (p ≡ []) ⊎ ((c : ℕ → Tree) × (x : ℕ) × (s : List ℕ) × Allowed n (gray c) × (p ++ x ∷ s ≡ spell (gray c)))

-- t, read from place a on for a cell with n levels left, is wrong at place e and not before: no text of such a cell goes on with the byte there. Past the end the
-- byte is 0, which is in no text.
pub record Stuck (n : ℕ) (t : List ℕ) (a e : ℕ) : Type 0 where
  pub bytes : List ℕ
  pub reads : Reads t a bytes e
  pub half : Half n bytes
  pub wrong : (s : List ℕ) → Acceptable n (bytes ++ get_or t e 0 ∷ s) → ⊥

-- the byte that the text of a tree begins with
unfoldable pub head_of : Tree → ℕ
head_of (leaf b) = letter b
head_of (gray c) = opening

-- the byte of a head
abbrev pub byte_of : Head → ℕ
byte_of Open = opening
byte_of Black = letter true
byte_of White = letter false

-- the head that a byte is, or none
abbrev pub HeadOf : ℕ → Option Head → Type 0
HeadOf x None = (h : Head) → x ≡ byte_of h → ⊥
HeadOf x (Some h) = x ≡ byte_of h

-- the head at place a of t: there is none past the end, where the byte is 0
abbrev pub HeadAt : List ℕ → ℕ → Option Head → Type 0
HeadAt t a None = (h : Head) → get_or t a 0 ≡ byte_of h → ⊥
HeadAt t a (Some h) = (a < length t) × (get_or t a 0 ≡ byte_of h)

-- what a head says of the first m children c: the letter of the leaf that all of them are, or `Open`, where they are not one leaf
abbrev pub Alike : (ℕ → Tree) → ℕ → Head → Type 0
Alike c m Open = (b : Bool) → ((i : ℕ) → i < m → c i ≡ leaf b) → ⊥
Alike c m Black = (i : ℕ) → i < m → c i ≡ leaf true
Alike c m White = (i : ℕ) → i < m → c i ≡ leaf false

-- what the first m children c have in common: nothing where there is none
abbrev pub InCommon : (ℕ → Tree) → ℕ → Option Head → Type 0
InCommon c m None = m ≡ 0
InCommon c m (Some h) = (0 < m) × Alike c m h

-- the text t can be read on from place `at` for the cell with n levels left whose least voxel is `from`; the emitter is ready for it
pub record Ahead (D : ℕ) (t : List ℕ) (n from at : ℕ) (e : Emitter) : Type 0 where
  pub deep : D ≤ deepest
  pub level : n ≤ D
  pub root : from + 8 ^ n ≤ 8 ^ D
  pub cell : ℕ
  pub corner : from ≡ cell * 8 ^ n
  pub within : at ≤ length t
  pub depth : e.depth ≡ D
  pub ready : Ready D e.runs from

-- the same, where the next byte opens a gray cell whose children have n levels left
pub record Opens (D : ℕ) (t : List ℕ) (n from at : ℕ) (e : Emitter) : Type 0 where
  pub ahead : Ahead D t (suc n) from at e
  pub more : at < length t
  pub opens : get_or t at 0 ≡ opening

-- the cell is read from place `at` on: its tree is spelled by the bytes read, and its voxels take the emitter e to m
pub record CellRead (D : ℕ) (t : List ℕ) (n from at : ℕ) (e m : Emitter) (s : Cell) : Type 0 where
  pub tree : Tree
  pub allowed : Allowed n tree
  pub reads : Reads t at (spell tree) s.after
  pub head : head_of tree ≡ byte_of s.head
  pub fed : (P : ℕ → Bool) → ((v : ℕ) → from ≤ v → v < from + 8 ^ n → P v ≡ shows n tree v) → Feeds D P from (from + 8 ^ n) e m

-- the whole text: number 10, or the good list of its voxels is put over o, as far as there is room, and its leaves are counted
abbrev pub ReadTextOf : ℕ → List ℕ → List ℕ → List ℕ → Answer → Type 0
ReadTextOf D t o out =
    Decided alone (WrongByte D t ∷ StopsEarly D t ∷ [])
    (λ r. (x : Acceptable D t) × Result D (shows D x.tree) o out r.place × (r ≡ given r.place))
