-- The laws of the calls that give a text: counted first and then written, no second answer fits, and what success says. Assumes nothing.
use mathlib.Core.Path.{◌≡◌, refl, ap, ◌∙◌}
use mathlib.Core.List.{List, [], ◌∷◌, ◌++◌}
use Prim.Native.Nat.{ℕ, ◌^◌, ◌≤◌, ◌<◌}
use native.Mathlib.Omega.{arith}
use lib.ListN.{length, take, drop}
use Rattle.cells.specs.Answer.{answer, given, TooDeep, deepest}
use Rattle.cells.specs.declared.Answer.{Answer}
use Rattle.cells.proofs.Decisions.{One, Opening}
use Rattle.records.specs.Record.{black, Good}
use Rattle.records.specs.Count.{count}
use Rattle.records.specs.Fault.{Faulty}
use Rattle.records.specs.Writing.{stands, WritesOf}
use Rattle.records.proofs.CallLaws.{checks}
use Rattle.records.proofs.Fronts.{Front, left_front, writes_success, FormSuccess, form_success}
use Rattle.records.proofs.Writing.{sets_counted, sets_stands, one_writes, one_list_writes, too_short, standing}
use Rattle.text.specs.Text.{text_of, TextOf, refused_text, RefusedOf}
use Rattle.text.specs.Inner.{Put}

-- ---- a text put into the empty part of the bytes o, which counts it, and then into the part that it needs

module _ (t o e : List ℕ) (need : ℕ) (p : Put (take 0 o) 0 t e need) where
  abbrev o₁ : List ℕ
  o₁ = e ++ drop 0 o

  counted : need ≡ length t
  counted = omega (arith, p.place)

  kept : o₁ ≡ o
  kept = sets_counted o e t p.bytes

  pub text_short : length o₁ < need → (r : Answer) → r ≡ answer 8 need 0 → WritesOf t o (r, o₁)
  text_short h r a = too_short t o need counted r _ (omega (arith, ap length kept)) a kept

  pub text_stands : need ≤ length o₁ → (e₂ : List ℕ) (n : ℕ) → Put (take need o₁) 0 t e₂ n → (r : Answer) → r ≡ given need → WritesOf t o (r, e₂ ++ drop need o₁)
  text_stands h e₂ n q r a = standing t o need counted r _ (omega (arith, ap length kept)) a (sets_stands o₁ e₂ t need counted h q.bytes ∙ ap (stands t) kept)

-- ---- past `volume`

-- what the answer `given v` says
pub record GoodVolume (D : ℕ) (l : List ℕ) (v : ℕ) : Type 0 where
  pub shallow : D ≤ deepest
  pub good : Good D l
  pub few : length l ≤ 8 ^ D
  pub is_volume : v ≡ count (black D l) (8 ^ D)

pub measures : (D : ℕ) (l : List ℕ) → Opening (TooDeep deepest D ∷ Faulty D l 1 ∷ []) (λ r. r ≡ given (count (black D l) (8 ^ D))) (λ r. GoodVolume D l r.place)
measures D l = record {
  numbered = (checks D l).numbered;
  succeeds = λ r e. ap (λ (a : Answer). a.number) e;
  known = λ r passed e.
      let k = (checks D l).known (given (length l)) passed refl in
      record { shallow = k.shallow; good = k.good; few = k.few; is_volume = ap (λ (a : Answer). a.place) e };
}

-- ---- no second answer: the answer, and the bytes afterwards

pub one_text : (D : ℕ) (l o : List ℕ) → One (λ (t : Answer × List ℕ). TextOf D l o t.0 t.1)
one_text D l o = one_list_writes (text_of D l) o D l

pub one_refused : (n p : ℕ) (o : List ℕ) → One (λ (t : Answer × List ℕ). RefusedOf n p o t.0 t.1)
one_refused n p o = one_writes (refused_text n p) o

-- ---- what success says

pub text_success : (D : ℕ) (l o : List ℕ) (r : Answer) (after : List ℕ) → TextOf D l o r after → r.number ≡ 0 → FormSuccess D l (text_of D l) o r after
text_success D l o = form_success D l (text_of D l) o

pub refused_success : (n p : ℕ) (o : List ℕ) (r : Answer) (after : List ℕ) → RefusedOf n p o r after → r.number ≡ 0 → Front (refused_text n p) r.place after
refused_success n p o r after w z = left_front (refused_text n p) o r after (writes_success (refused_text n p) o r after w z)
