-- Buffers with room, the order's condition: a buffer with as many places as a good list of the depth can have leaves always has room. Assumes nothing.
use mathlib.Core.Path.{◌≡◌, sym, ap, ◌∙◌}
use mathlib.Core.Logic.{inl, inr}
use mathlib.Core.List.{List}
use Prim.Native.Nat.{ℕ, ◌≤◌}
use native.Mathlib.Omega.{arith}
use lib.IntN.{ℤ}
use lib.ListN.{length}
use Rattle.cells.specs.Answer.{deepest}
use Rattle.cells.specs.Place.{Came}
use Rattle.cells.specs.declared.Answer.{Answer}
use Rattle.records.specs.Record.{Good}
use Rattle.records.proofs.Most.{most, most_leaves}
use Rattle.records.specs.Writing.{WritesListOf}
use Rattle.sets.specs.declared.Op.{Op}
use Rattle.sets.specs.Sets.{Chosen, SetOf}
use Rattle.demands.specs.Laws.{move, Roomy}
use Rattle.demands.proofs.Outcomes.{displacement, Outcome, move_carries, combine_told}

told_roomy : (D : ℕ) (Q : ℕ → Type 0) (o o' : List ℕ) (r : Answer) → most D ≤ length o → WritesListOf D Q o (r, o') → Roomy r
told_roomy D Q o o' r room (l, x, inl (a, (h, _), _)) z = omega (arith, most_leaves D l x.good)
told_roomy D Q o o' r room (l, x, inr (_, e)) z = let g : ◌≡◌ {A = ℕ} 0 8 = sym (ap (λ (t : Answer × List ℕ). t.0.number) e) ∙ z in omega arith

module _ (D : ℕ) (o o' : List ℕ) (r : Answer) (shallow : D ≤ deepest) (room : most D ≤ length o) where
  pub move_roomy : (l : List ℕ) (d : ℕ → ℤ) → Good D l → move D l d o r o' → Roomy r
  move_roomy l d g m = go (move_carries.outcome D l d o o' r shallow g tt m)
    where
      go : Outcome D l (Came D (displacement d)) o o' r → Roomy r
      go (inl (seven, _)) z = let g : ◌≡◌ {A = ℕ} 7 8 = sym seven ∙ z in omega arith
      go (inr (_, t)) z = told_roomy D _ o o' r room t z

  pub set_roomy : (op : Op) (a b : List ℕ) → Good D a → Good D b → SetOf op D a b o r o' → Roomy r
  set_roomy op a b ga gb m = told_roomy D _ o o' r room (combine_told (Chosen op) D a b o o' r shallow ga gb m)
