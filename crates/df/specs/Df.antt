-- DF text: ticket 1 of document 02, the depth-first form of document 002. Bytes are ASCII. Definitions only.
use Rattle.std.specs.Prelude.{◌≡◌, Bool, true, false, List, [], ◌∷◌, ◌++◌, ℕ, zero, suc, ◌/◌, ◌%◌, ◌^◌, ◌<◌, length, take}
use Rattle.cells.specs.Answer.{answer, Test, Decided, keeping, refuses, refuses_first, deepest, TooDeep}
use Rattle.cells.specs.declared.Answer.{Answer}
use Rattle.records.specs.Record.{black}
use Rattle.records.specs.Fault.{Faulty}
use Rattle.records.specs.Writing.{WritesOf, WritesListOf}

-- ---- trees, and how they are spelled

-- a tree: a leaf, black (true) or white (false), or a gray cell with the tree of its child of each label, 0 to 7
pub data Tree : Type 0 where
  leaf : Bool → Tree
  gray : (ℕ → Tree) → Tree

-- "B" and "W"
abbrev pub letter : Bool → ℕ
letter true = 66
letter false = 87

-- "("
abbrev pub opening : ℕ
opening = 40

-- the first n of the texts f, one after the other
unfoldable pub texts : (ℕ → List ℕ) → ℕ → List ℕ
texts f zero = []
texts f (suc n) = texts f n ++ f n

-- how a tree is spelled: "(" for a gray cell, followed by its eight children in label order
unfoldable pub spell : Tree → List ℕ
spell (leaf b) = letter b ∷ []
spell (gray c) = opening ∷ texts (λ m. spell (c m)) 8

-- a tree that may stand for a cell with n levels left: no gray cell has eight black or eight white leaves under it, and no cell lies below the depth
unfoldable pub Allowed : ℕ → Tree → Type 0
Allowed n (leaf b) = Unit {0}
Allowed zero (gray c) = ⊥
Allowed (suc n) (gray c) = ((m : ℕ) → m < 8 → Allowed n (c m)) × ((b : Bool) → ((m : ℕ) → m < 8 → c m ≡ leaf b) → ⊥)

-- whether the voxel of number v is black in a tree with n levels: down the labels of v, the outermost first
unfoldable pub shows : ℕ → Tree → ℕ → Bool
shows n (leaf b) v = b
shows zero (gray c) v = false
shows (suc n) (gray c) v = shows n (c (v / 8 ^ n % 8)) v

-- ---- texts

-- the text t is acceptable for the depth D: a tree spells it, and nothing stands after the root
pub record Acceptable (D : ℕ) (t : List ℕ) : Type 0 where
  pub tree : Tree
  pub allowed : Allowed D tree
  pub spelled : t ≡ spell tree

-- the text t begins acceptably: something can follow that makes it acceptable
abbrev pub Begins : ℕ → List ℕ → Type 0
Begins D t = (s : List ℕ) × Acceptable D (t ++ s)

-- number 10: the first byte up to and including which the text does not begin acceptably
abbrev pub WrongByte : ℕ → List ℕ → Test
WrongByte D t = refuses_first (length t) (λ i. Begins D (take (suc i) t) → ⊥) (λ i. answer 10 i 0)

-- or, where there is none, the text's length: it stops early
abbrev pub StopsEarly : ℕ → List ℕ → Test
StopsEarly D t = refuses (answer 10 (length t) 0) (Acceptable D t → ⊥)

-- ---- the calls

-- THE CALL df_read, of the text t to the buffer o: the answer r and the buffer o' afterwards. Success writes the good list of the voxels that are black in the
-- text's tree.
abbrev pub DfReadOf : ℕ → List ℕ → List ℕ → Answer → List ℕ → Type 0
DfReadOf D t o r o' =
    Decided (keeping o) (TooDeep deepest D ∷ WrongByte D t ∷ StopsEarly D t ∷ [])
    (λ s. (x : Acceptable D t) × WritesListOf D (λ v. shows D x.tree v ≡ true) o s)
    (r, o')

-- t is the text of the list l: acceptable, and a voxel is black in its tree just where it is black in l
pub record DfOf (D : ℕ) (l t : List ℕ) : Type 0 where
  pub text : Acceptable D t
  pub same : (v : ℕ) → v < 8 ^ D → shows D text.tree v ≡ black D l v

-- THE CALL df_write, of the list l to the bytes o: the answer r and the bytes o' afterwards
abbrev pub DfWriteOf : ℕ → List ℕ → List ℕ → Answer → List ℕ → Type 0
DfWriteOf D l o r o' = Decided (keeping o) (TooDeep deepest D ∷ Faulty D l 1 ∷ []) (λ s. (t : List ℕ) × DfOf D l t × WritesOf t o s) (r, o')
