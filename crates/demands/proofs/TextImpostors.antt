-- The impostors of document 01, "How tight the statements are", for the calls that give a text: what each would leave at a named input does not fit the call's
-- definition. Each follows from one right answer and the law that no second answer fits. Assumes nothing.
use mathlib.Core.Path.{◌≡◌, refl, sym, ap}
use mathlib.Core.List.{List, []}
use Prim.Native.Nat.{ℕ}
use native.Mathlib.Omega.{arith}
use lib.ListN.{length, get_or, replicate}
use Rattle.cells.specs.Answer.{answer, given}
use Rattle.cells.specs.declared.Answer.{Answer}
use Rattle.cells.proofs.Decisions.{opening_known}
use Rattle.records.specs.Writing.{stands}
use Rattle.records.proofs.Writing.{writes_fitting, too_short, list_fitting}
use Rattle.blocks.proofs.Instances.{good}
use Rattle.text.specs.Text.{digits, path_lines, text_of, TextOf, refused_text, RefusedOf}
use Rattle.text.specs.Inner.{listing}
use Rattle.text.proofs.CallLaws.{GoodVolume, measures, one_text, one_refused}
use Rattle.text.proofs.Instances.{text_is, text_holds, refused_holds}
use Rattle.demands.specs.Examples.{r057}
use Rattle.demands.specs.Laws.{Succeeds}
use Rattle.demands.proofs.Outcomes.{Left, number_of, place_of, front_of}
use Rattle.demands.proofs.Agreement.{list_crowded}
use Rattle.demands.proofs.Named.{right_volume_none}

-- the listing of [r057] has 31 bytes
abbrev bytes : List ℕ
bytes = replicate 32 7

-- and the line "refused 9 0" 12
abbrev twelve : List ℕ
twelve = replicate 12 7

-- ---- one that rejects everything

pub rejects_text : (r : Answer) (o : List ℕ) → (Succeeds r → ⊥) → TextOf 3 r057 bytes r o → ⊥
rejects_text r o refused h = refused (ap number_of (one_text 3 r057 bytes (r, o) _ h text_holds))

pub rejects_refused : (r : Answer) (o : List ℕ) → (Succeeds r → ⊥) → RefusedOf 9 0 twelve r o → ⊥
rejects_refused r o refused h = refused (ap number_of (one_refused 9 0 twelve (r, o) _ h refused_holds))

-- ---- one that hands out a fixed text

-- the empty list is good, and has no voxel; its listing is the first line alone
none : GoodVolume 3 [] 0
none = opening_known (measures 3 []) (given 0) right_volume_none refl

none_length : length (text_of 3 []) ≡ 26
unfolding digits path_lines text_of listing
none_length = ap (λ (v : ℕ). length (listing 3 [] v)) (sym none.is_volume)

pub fixed_text : (r : Answer) (o : List ℕ) → TextOf 3 r057 bytes r o → TextOf 3 [] bytes r o → ⊥
fixed_text r o h k =
    let p = ap place_of (one_text 3 r057 bytes (r, o) _ h text_holds) in
    let q = ap place_of (one_text 3 [] bytes (r, o) _ k (list_fitting (text_of 3 []) bytes 3 [] none.shallow none.good (omega (arith, none_length)))) in
    omega (arith, none_length)

-- the line "refused 2 0" is as long as "refused 9 0"
two_length : length (refused_text 2 0) ≡ 12
unfolding digits refused_text
two_length = refl

-- the number stands after "refused "
abbrev numeral : List ℕ → ℕ
numeral l = get_or l 8 0

two_told : numeral (stands (refused_text 2 0) twelve) ≡ 50
unfolding digits refused_text
two_told = refl

pub fixed_refused : (r : Answer) (o : List ℕ) → RefusedOf 9 0 twelve r o → RefusedOf 2 0 twelve r o → ⊥
fixed_refused r o h k =
    let p : numeral o ≡ 57 = ap (λ (t : Left). numeral t.1) (one_refused 9 0 twelve (r, o) _ h refused_holds) in
    let q = ap (λ (t : Left). numeral t.1) (one_refused 2 0 twelve (r, o) _ k (writes_fitting (refused_text 2 0) twelve (omega (arith, two_length)))) in
    omega (arith, p, q, two_told)

-- ---- one that writes nothing, whatever it reports

pub silent_text : (r : Answer) → TextOf 3 r057 bytes r bytes → ⊥
silent_text r h = let e : ◌≡◌ {A = ℕ} 7 100 = ap front_of (one_text 3 r057 bytes (r, bytes) _ h text_holds) in omega arith

pub silent_refused : (r : Answer) → RefusedOf 9 0 twelve r twelve → ⊥
silent_refused r h = let e : ◌≡◌ {A = ℕ} 7 114 = ap front_of (one_refused 9 0 twelve (r, twelve) _ h refused_holds) in omega arith

-- ---- an invented byte count or needed room

pub invented_bytes_text : (n : ℕ) (o : List ℕ) → (n ≡ 31 → ⊥) → TextOf 3 r057 bytes (given n) o → ⊥
invented_bytes_text n o other h = other (ap place_of (one_text 3 r057 bytes (given n, o) _ h text_holds))

pub invented_bytes_refused : (n : ℕ) (o : List ℕ) → (n ≡ 12 → ⊥) → RefusedOf 9 0 twelve (given n) o → ⊥
invented_bytes_refused n o other h = other (ap place_of (one_refused 9 0 twelve (given n, o) _ h refused_holds))

pub invented_room_text : (n : ℕ) (o : List ℕ) → (n ≡ 31 → ⊥) → TextOf 3 r057 [] (answer 8 n 0) o → ⊥
invented_room_text n o other h =
    let crowded : TextOf 3 r057 [] (answer 8 31 0) [] = list_crowded 3 r057 (text_of 3 r057) [] 31 (sym (ap length text_is)) (omega arith) good (omega arith) in
    other (ap place_of (one_text 3 r057 [] (answer 8 n 0, o) (answer 8 31 0, []) h crowded))

nine_length : length (refused_text 9 0) ≡ 12
unfolding digits refused_text
nine_length = refl

pub invented_room_refused : (n : ℕ) (o : List ℕ) → (n ≡ 12 → ⊥) → RefusedOf 9 0 [] (answer 8 n 0) o → ⊥
invented_room_refused n o other h =
    let crowded : RefusedOf 9 0 [] (answer 8 12 0) [] = too_short (refused_text 9 0) [] 12 (sym nine_length) _ _ (omega arith) refl refl in
    other (ap place_of (one_refused 9 0 [] (answer 8 n 0, o) (answer 8 12 0, []) h crowded))
