-- For each public call of this crate an answer that fits its definition at a named input, and one that does not. Assumes nothing.
use mathlib.Core.Path.{◌≡◌, refl, sym, ap}
use mathlib.Core.Logic.{inr}
use mathlib.Core.List.{List, [], ◌∷◌, ◌++◌}
use Prim.Native.Nat.{ℕ}
use native.Mathlib.Omega.{arith}
use lib.ListN.{get_or, replicate}
use Rattle.cells.specs.Answer.{given}
use Rattle.cells.specs.Cell.{level, index}
use Rattle.cells.specs.declared.Answer.{Answer}
use Rattle.cells.proofs.Decisions.{passes, opening_known}
use Rattle.records.proofs.First.{good_passes}
use Rattle.records.proofs.Instances.{volume_holds}
use Rattle.text.specs.Text.{digits, labels, path_lines, text_of, TextOf, refused_text, RefusedOf}
use Rattle.text.specs.Inner.{listing}
use Rattle.text.proofs.CallLaws.{GoodVolume, measures, one_text, one_refused}

-- ---- document 01's listing: depth 3, [r057]

abbrev one : List ℕ
one = 559 ∷ []

-- it is good, and has one voxel
known : GoodVolume 3 one 1
known = opening_known (measures 3 one) (given 1) volume_holds refl

-- "depth 3 leaves 1 volume 1", "r057"
abbrev pub printed : List ℕ
printed = 100 ∷ 101 ∷ 112 ∷ 116 ∷ 104 ∷ 32 ∷ 51 ∷ 32 ∷ 108 ∷ 101 ∷ 97 ∷ 118 ∷ 101 ∷ 115 ∷ 32 ∷ 49 ∷ 32 ∷ 118 ∷ 111 ∷ 108 ∷ 117 ∷ 109 ∷ 101 ∷ 32 ∷ 49 ∷ 10 ∷ 114 ∷ 48 ∷ 53 ∷ 55 ∷ 10 ∷ []

pub text_is : text_of 3 one ≡ printed
unfolding digits labels level index path_lines text_of listing
text_is = ap (listing 3 one) (sym known.is_volume)

-- 31 bytes, and one more, which stays
pub text_holds : TextOf 3 one (replicate 32 7) (given 31) (printed ++ (7 ∷ []))
text_holds = rw text_is (inr (passes (λ h. omega arith), inr (good_passes 3 one 1 known.good, inr (passes (λ h. omega arith), refl))))

pub text_fails : TextOf 3 one (replicate 32 7) (given 30) (printed ++ (7 ∷ [])) → ⊥
text_fails h =
    let e : ◌≡◌ {A = ℕ} 30 31 = ap (λ (t : Answer × List ℕ). t.0.place) (one_text 3 one (replicate 32 7) (given 30, printed ++ (7 ∷ [])) (given 31, printed ++ (7 ∷ [])) h text_holds) in
    omega arith

-- ---- number 9, place 0: "refused 9 0"

abbrev line : List ℕ
line = 114 ∷ 101 ∷ 102 ∷ 117 ∷ 115 ∷ 101 ∷ 100 ∷ 32 ∷ 57 ∷ 32 ∷ 48 ∷ 10 ∷ []

line_is : refused_text 9 0 ≡ line
unfolding digits refused_text
line_is = refl

pub refused_holds : RefusedOf 9 0 (replicate 12 7) (given 12) line
refused_holds = rw line_is (inr (passes (λ h. omega arith), refl))

pub refused_fails : RefusedOf 9 0 (replicate 12 7) (given 12) (replicate 12 7) → ⊥
refused_fails h =
    let e : ◌≡◌ {A = List ℕ} (replicate 12 7) line = ap (λ (t : Answer × List ℕ). t.1) (one_refused 9 0 (replicate 12 7) (given 12, replicate 12 7) (given 12, line) h refused_holds) in
    let z : ◌≡◌ {A = ℕ} 7 114 = ap (λ (l : List ℕ). get_or l 0 0) e in
    omega arith
