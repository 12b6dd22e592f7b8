-- The impostors of document 01, "How tight the statements are", for the calls that read and write DF text: what each would leave at a named input does not fit the
-- call's definition. Each follows from one right answer and the law that no second answer fits. Assumes nothing.
use mathlib.Core.Path.{◌≡◌, sym, ap, ◌∙◌}
use mathlib.Core.List.{List, [], ◌∷◌}
use Prim.Native.Nat.{ℕ}
use native.Mathlib.Omega.{arith}
use lib.ListN.{replicate}
use Rattle.cells.specs.Answer.{answer, given}
use Rattle.cells.specs.declared.Answer.{Answer}
use Rattle.records.proofs.Writing.{writes_fitting}
use Rattle.df.specs.Df.{DfReadOf, DfWriteOf}
use Rattle.df.proofs.CallLaws.{one_df_read, one_df_write}
use Rattle.df.proofs.Theorems.{df_read_exactly, df_write_exactly}
use Rattle.df.proofs.Instances.{r0_text, none_form, df_read_holds, df_write_holds, df_read_crowded, df_write_crowded}
use Rattle.demands.specs.Examples.{r0}
use Rattle.demands.specs.Laws.{Succeeds}
use Rattle.demands.proofs.Outcomes.{number_of, place_of, front_of}

-- depth 1: `r0_text`, "(BWWWWWWW", is the text of [r0], and "W" that of the empty list

abbrev white : List ℕ
white = 87 ∷ []

abbrev two_places : List ℕ
two_places = 7 ∷ 7 ∷ []

abbrev bytes : List ℕ
bytes = replicate 10 7

-- ---- one that rejects everything

pub rejects_df_read : (r : Answer) (o : List ℕ) → (Succeeds r → ⊥) → DfReadOf 1 r0_text two_places r o → ⊥
rejects_df_read r o refused h = refused (ap number_of (one_df_read 1 r0_text two_places (r, o) _ h df_read_holds))

pub rejects_df_write : (r : Answer) (o : List ℕ) → (Succeeds r → ⊥) → DfWriteOf 1 r0 bytes r o → ⊥
rejects_df_write r o refused h = refused (ap number_of (one_df_write 1 r0 bytes (r, o) _ h df_write_holds))

-- ---- one that hands out a fixed list or text

pub fixed_df_read : (r : Answer) (o : List ℕ) → DfReadOf 1 r0_text two_places r o → DfReadOf 1 white two_places r o → ⊥
fixed_df_read r o h k =
    let none : DfReadOf 1 white two_places (given 0) two_places = (df_read_exactly 1 [] white (omega arith) (none_form 1) two_places _ _).1 (writes_fitting [] two_places (omega arith)) in
    let e : ◌≡◌ {A = ℕ} 1 0 = ap place_of (sym (one_df_read 1 r0_text two_places (r, o) _ h df_read_holds) ∙ one_df_read 1 white two_places (r, o) _ k none) in
    omega arith

pub fixed_df_write : (r : Answer) (o : List ℕ) → DfWriteOf 1 r0 bytes r o → DfWriteOf 1 [] bytes r o → ⊥
fixed_df_write r o h k =
    let none : DfWriteOf 1 [] bytes (given 1) (87 ∷ replicate 9 7) = (df_write_exactly 1 [] white (omega arith) (none_form 1) bytes _ _).1 (writes_fitting white bytes (omega arith)) in
    let e : ◌≡◌ {A = ℕ} 40 87 = ap front_of (sym (one_df_write 1 r0 bytes (r, o) _ h df_write_holds) ∙ one_df_write 1 [] bytes (r, o) _ k none) in
    omega arith

-- ---- one that writes nothing, whatever it reports

pub silent_df_read : (r : Answer) → DfReadOf 1 r0_text two_places r two_places → ⊥
silent_df_read r h = let e : ◌≡◌ {A = ℕ} 7 8 = ap front_of (one_df_read 1 r0_text two_places (r, two_places) _ h df_read_holds) in omega arith

pub silent_df_write : (r : Answer) → DfWriteOf 1 r0 bytes r bytes → ⊥
silent_df_write r h = let e : ◌≡◌ {A = ℕ} 7 40 = ap front_of (one_df_write 1 r0 bytes (r, bytes) _ h df_write_holds) in omega arith

-- ---- an invented leaf count, byte count or needed room

pub invented_count_df_read : (n : ℕ) (o : List ℕ) → (n ≡ 1 → ⊥) → DfReadOf 1 r0_text two_places (given n) o → ⊥
invented_count_df_read n o other h = other (ap place_of (one_df_read 1 r0_text two_places (given n, o) _ h df_read_holds))

pub invented_bytes_df_write : (n : ℕ) (o : List ℕ) → (n ≡ 9 → ⊥) → DfWriteOf 1 r0 bytes (given n) o → ⊥
invented_bytes_df_write n o other h = other (ap place_of (one_df_write 1 r0 bytes (given n, o) _ h df_write_holds))

pub invented_room_df_read : (n : ℕ) (o : List ℕ) → (n ≡ 1 → ⊥) → DfReadOf 1 r0_text [] (answer 8 n 0) o → ⊥
invented_room_df_read n o other h = other (ap place_of (one_df_read 1 r0_text [] (answer 8 n 0, o) _ h df_read_crowded))

pub invented_room_df_write : (n : ℕ) (o : List ℕ) → (n ≡ 9 → ⊥) → DfWriteOf 1 r0 [] (answer 8 n 0) o → ⊥
invented_room_df_write n o other h = other (ap place_of (one_df_write 1 r0 [] (answer 8 n 0, o) _ h df_write_crowded))
