-- Demand 1: "A rejected call changes no byte it was lent." And document 01: "Buffers beyond what is written keep their content." Of each call that is lent a
-- buffer to write. Assumes nothing.
use mathlib.Core.Path.{◌≡◌, refl, subst⁻¹}
use mathlib.Core.Bool.{true}
use mathlib.Core.List.{List, [], ◌∷◌}
use Prim.Native.Nat.{ℕ}
use lib.IntN.{ℤ}
use lib.ListN.{length, drop}
use lib.Seq.{drop-append_seam}
use Rattle.cells.specs.Answer.{given, Test, Decided, keeping, deepest, TooDeep}
use Rattle.cells.specs.declared.Answer.{Answer}
use Rattle.cells.proofs.Decisions.{decided_all}
use Rattle.cells.specs.Place.{axes, Came}
use Rattle.records.specs.Record.{black}
use Rattle.records.specs.Fault.{Faulty}
use Rattle.records.specs.Carried.{FromBlack, Straying}
use Rattle.records.specs.Writing.{stands, TooShort, WritesOf, WritesListOf}
use Rattle.sets.specs.declared.Op.{Op}
use Rattle.sets.specs.Sets.{Chosen, InResult, SetOf}
use Rattle.metres.specs.Metres.{move_tests}
use Rattle.metres.specs.declared.Move.{Move}
use Rattle.moves.specs.Moves.{ShiftOf, MoveOf}
use Rattle.blocks.specs.Block.{depth_of, codes}
use Rattle.blocks.specs.File.{file_of}
use Rattle.blocks.specs.Calls.{ReadAnswer, Unsound, unread, ReadOf, WriteOf}
use Rattle.text.specs.Text.{text_of, TextOf, refused_text, RefusedOf}
use Rattle.arrivals.specs.Arrivals.{Step, leaving, OtherDepth, ArriveOf, MergeOf}
use Rattle.arrivals.proofs.Steps.{of_read, MovedFrom, Arrived, of_join, StoredAs, JoinedTo}
use Rattle.df.specs.Df.{shows, Acceptable, WrongByte, StopsEarly, DfReadOf, DfOf, DfWriteOf}
use Rattle.turns.specs.Turns.{Turned, NoTurn, TurnOf}
use Rattle.plain.specs.Bits.{black_in}
use Rattle.plain.specs.Calls.{deepest_plain, BitsShort, GivesBits, ToBitsOf, ToListOf, SetBitsOf, Leaving, ShiftBitsOf, MoveBitsOf}
use Rattle.demands.specs.Laws.{Kept, Keeps}
use Rattle.demands.proofs.Outcomes.{Left}

-- ---- a refusal, and what is written to the front

abbrev KeptOf : List ℕ → Left → Type 0
KeptOf o t = Kept o t.0 t.1

kept_refused : (o : List ℕ) (a : Answer) → Kept o a o
kept_refused o a = record { refused = λ _. refl; beyond = λ _. refl }

kept_stands : (l o : List ℕ) → Kept o (given (length l)) (stands l o)
kept_stands l o = record { refused = λ n. absurd (n refl); beyond = λ _. drop-append_seam l (drop (length l) o) }

-- ---- rows of tests before what is written

module _ (o : List ℕ) (t : Left) where
  decided_keeps : (Fs : List Test) (P : Left → Type 0) → (P t → KeptOf o t) → Decided (keeping o) Fs P t → KeptOf o t
  decided_keeps Fs P = decided_all (keeping o) Fs P (KeptOf o) t (kept_refused o)

  writes_keeps : (l : List ℕ) → WritesOf l o t → KeptOf o t
  writes_keeps l = decided_keeps (TooShort (length l) o ∷ []) (λ s. s ≡ (given (length l), stands l o)) (λ e. rw e (kept_stands l o))

  -- the good list of the voxels that have Q is written
  good_list_keeps : (Fs : List Test) (D : ℕ) (Q : ℕ → Type 0) → Decided (keeping o) Fs (WritesListOf D Q o) t → KeptOf o t
  good_list_keeps Fs D Q = decided_keeps Fs (WritesListOf D Q o) (λ (l, _, w). writes_keeps l w)

  -- w is written where the list l passes its tests
  tested_keeps : (D : ℕ) (l w : List ℕ) → Decided (keeping o) (TooDeep deepest D ∷ Faulty D l 1 ∷ []) (WritesOf w o) t → KeptOf o t
  tested_keeps D l w = decided_keeps (TooDeep deepest D ∷ Faulty D l 1 ∷ []) (WritesOf w o) (writes_keeps w)

  -- the bits of the voxels that have P are written
  bits_keeps : (Fs : List Test) (D : ℕ) (P : ℕ → Type 0) → Decided (keeping o) Fs (GivesBits D P o) t → KeptOf o t
  bits_keeps Fs D P = decided_keeps Fs (GivesBits D P o) (λ (b, _, e). rw e (kept_stands b o))

  shift_bits_keeps : (D : ℕ) (b : List ℕ) (d : ℕ → ℤ) → ShiftBitsOf D b o d t → KeptOf o t
  shift_bits_keeps D b d = bits_keeps (BitsShort D b ∷ BitsShort D o ∷ Leaving D (Came D d) (black_in D b) ∷ []) D (FromBlack (Came D d) (black_in D b))

  shift_keeps : (D : ℕ) (l : List ℕ) (d : ℕ → ℤ) → ShiftOf D l d o t → KeptOf o t
  shift_keeps D l d = good_list_keeps (Straying D (Came D d) l ∷ []) D (FromBlack (Came D d) (black D l))

-- ---- the calls

pub set_keeps : (op : Op) (D : ℕ) (a b : List ℕ) → Keeps (SetOf op D a b)
set_keeps op D a b o o' r d = good_list_keeps o (r, o') (TooDeep deepest D ∷ Faulty D a 1 ∷ Faulty D b 2 ∷ []) D (InResult op D a b) d

pub move_keeps : (D : ℕ) (l : List ℕ) (m : Move) → Keeps (MoveOf D l m)
move_keeps D l m o o' r d =
    decided_keeps o (r, o') (TooDeep deepest D ∷ Faulty D l 1 ∷ move_tests m) _ (λ (dx, dy, dz, _, s). shift_keeps o (r, o') D l (axes dx dy dz) s) d

pub write_keeps : (D : ℕ) (l : List ℕ) → Keeps (WriteOf D l)
write_keeps D l o o' r d = tested_keeps o (r, o') D l (file_of D l) d

-- whatever depth D comes beside the answer
pub read_keeps : (b : List ℕ) (D : ℕ) → Keeps (λ o r o'. ReadOf b o (record { answer = r; depth = D }) o')
read_keeps b D o o' r d =
    decided_all (unread o) (Unsound b ∷ Faulty (depth_of b) (codes b) 1 ∷ TooShort (length (codes b)) o ∷ []) (λ t. t ≡ success) OfReading _ (kept_refused o)
    (λ e. subst⁻¹ OfReading {y = success} e (kept_stands (codes b) o)) d
  where
    OfReading : ReadAnswer × List ℕ → Type 0
    OfReading t = Kept o t.0.answer t.1

    success : ReadAnswer × List ℕ
    success = (record { answer = given (length (codes b)); depth = depth_of b }, stands (codes b) o)

pub text_keeps : (D : ℕ) (l : List ℕ) → Keeps (TextOf D l)
text_keeps D l o o' r d = tested_keeps o (r, o') D l (text_of D l) d

pub refused_keeps : (n p : ℕ) → Keeps (RefusedOf n p)
refused_keeps n p o o' r d = writes_keeps o (r, o') (refused_text n p) d

pub df_read_keeps : (D : ℕ) (t : List ℕ) → Keeps (DfReadOf D t)
df_read_keeps D t o o' r d =
    decided_keeps o (r, o') (TooDeep deepest D ∷ WrongByte D t ∷ StopsEarly D t ∷ []) (λ s. (x : Acceptable D t) × WritesListOf D (λ v. shows D x.tree v ≡ true) o s)
    (λ (_, (l, _, w)). writes_keeps o (r, o') l w) d

pub df_write_keeps : (D : ℕ) (l : List ℕ) → Keeps (DfWriteOf D l)
df_write_keeps D l o o' r d =
    decided_keeps o (r, o') (TooDeep deepest D ∷ Faulty D l 1 ∷ []) (λ s. (t : List ℕ) × DfOf D l t × WritesOf t o s) (λ (t, _, w). writes_keeps o (r, o') t w) d

pub turn_keeps : (D : ℕ) (l : List ℕ) (n : ℕ) → Keeps (TurnOf D l n)
turn_keeps D l n o o' r d = good_list_keeps o (r, o') (TooDeep deepest D ∷ Faulty D l 1 ∷ NoTurn n ∷ []) D (FromBlack (Turned D n) (black D l)) d

pub to_bits_keeps : (D : ℕ) (l : List ℕ) → Keeps (ToBitsOf D l)
to_bits_keeps D l o o' r d = bits_keeps o (r, o') (TooDeep deepest_plain D ∷ Faulty D l 1 ∷ BitsShort D o ∷ []) D (λ v. black D l v ≡ true) d

pub to_list_keeps : (D : ℕ) (b : List ℕ) → Keeps (ToListOf D b)
to_list_keeps D b o o' r d = good_list_keeps o (r, o') (TooDeep deepest_plain D ∷ BitsShort D b ∷ []) D (λ v. black_in D b v ≡ true) d

pub set_bits_keeps : (op : Op) (D : ℕ) (a b : List ℕ) → Keeps (SetBitsOf op D a b)
set_bits_keeps op D a b o o' r d =
    bits_keeps o (r, o') (TooDeep deepest_plain D ∷ BitsShort D a ∷ BitsShort D b ∷ BitsShort D o ∷ []) D (λ v. Chosen op (black_in D a v ≡ true) (black_in D b v ≡ true)) d

pub move_bits_keeps : (D : ℕ) (b : List ℕ) (m : Move) → Keeps (MoveBitsOf D b m)
move_bits_keeps D b m o o' r d =
    decided_keeps o (r, o') (TooDeep deepest_plain D ∷ move_tests m) _ (λ (dx, dy, dz, _, s). shift_bits_keeps o (r, o') D b (axes dx dy dz) s) d

-- ---- the steps of the order's job, of the buffer of their result; w is the buffer for work, and w' what stands there afterwards

abbrev OfStep : List ℕ → Step → Type 0
OfStep o t = Kept o t.0 t.2

pub arrive_keeps : (D : ℕ) (f : List ℕ) (m : Move) (w w' : List ℕ) → Keeps (λ o r o'. ArriveOf D f m w o (r, w', o'))
arrive_keeps D f m w w' o o' r d =
    decided_all (leaving w o) (of_read D f m w o) (Arrived D f m w o) (OfStep o) (r, w', o') (kept_refused o)
    (decided_all (leaving (stands (codes f) w) o) (OtherDepth D f ∷ []) (MovedFrom D f m w o) (OfStep o) (r, w', o') (kept_refused o) (λ (moved, _). move_keeps D (codes f) m o o' r moved)) d

pub merge_keeps : (D : ℕ) (a b w w' : List ℕ) → Keeps (λ o r o'. MergeOf D a b w o (r, w', o'))
merge_keeps D a b w w' o o' r d =
    decided_all (leaving w o) (of_join D a b w o) (JoinedTo D a b w o) (OfStep o) (r, w', o') (kept_refused o)
    (λ (l, _, s). decided_all (leaving w o) (TooShort (length l) w ∷ []) (StoredAs D a b w o l) (OfStep o) (r, w', o') (kept_refused o) (λ (stored, _). writes_keeps o (r, o') (file_of D l) stored) s) d
