-- The laws of the calls `met` and `met_at`, two views of one meeting: its part lies in the list, and no second answer fits. Assumes nothing.
use mathlib.Core.Path.{◌≡◌, sym, ap, ap₂, ◌∙◌}
use mathlib.Core.List.{List, [], ◌∷◌}
use Prim.Native.Nat.{ℕ, ◌+◌, ◌*◌, ◌≤◌, zero-le}
use lib.IntN.{ℤ}
use lib.ListN.{length, take, drop}
use Rattle.std.proofs.Common.{w32, SFits, to_z, of_z}
use Rattle.cells.specs.Place.{axes}
use Rattle.cells.proofs.Words.{signed_axes}
use Rattle.cells.specs.Answer.{given, Test, deepest, TooDeep}
use Rattle.cells.specs.Corners.{NoCell}
use Rattle.cells.specs.Neighbour.{NoDirection, Neighbour, Outside}
use Rattle.cells.specs.declared.Answer.{Answer}
use Rattle.cells.proofs.Decisions.{One, one_refuses, one_refuses_first, one_decided, decided_all}
use Rattle.cells.proofs.NeighbourLaws.{one_neighbour}
use Rattle.records.specs.Fault.{Faulty}
use Rattle.records.specs.Met.{MetPart, Meeting, unmet, MeetingOf, MetOf, MetAtOf}
use Rattle.records.proofs.Part.{one_part}

-- a search reads the direction back from the bits
pub directed : (D : ℕ) (l : List ℕ) (c : ℕ) (x y z : ℤ) → SFits w32 x → SFits w32 y → SFits w32 z → (m : Meeting)
    → MeetingOf D l c (axes (to_z w32 (of_z w32 x)) (to_z w32 (of_z w32 y)) (to_z w32 (of_z w32 z))) m → MeetingOf D l c (axes x y z) m
directed D l c x y z fx fy fz m = signed_axes (λ d. MeetingOf D l c d m) x y z fx fy fz

module _ (D : ℕ) (l : List ℕ) (c : ℕ) (d : ℕ → ℤ) where
  abbrev tests : List Test
  tests = TooDeep deepest D ∷ Faulty D l 1 ∷ NoCell D c ∷ NoDirection d ∷ Outside D c d ∷ []

  -- what is found where no test refuses
  abbrev pub Met : Meeting → Type 0
  Met r = (m : ℕ) × Neighbour D c d m × MetPart D l m r.at r.n × (r.answer ≡ given r.at)

  -- the part lies in the list
  pub within_list : (r : Meeting) → MeetingOf D l c d r → r.at + r.n ≤ length l
  within_list r x = decided_all unmet tests Met (λ (t : Meeting). t.at + t.n ≤ length l) r (λ a. zero-le) (λ t. t.2.within) x

  one_met_of : One Met
  one_met_of r s (m, p, x, e) (k, q, y, f) =
      let (at, n) = one_part D l m r.at r.n s.at s.n x (rw (one_neighbour D c d m k p q) y) in
      ap (λ (a : Answer). record { answer = a; at = r.at; n = r.n }) (e ∙ ap given at ∙ sym f) ∙ ap₂ (λ (x y : ℕ). record { answer = s.answer; at = x; n = y }) at n

  pub one_meeting : One (MeetingOf D l c d)
  one_meeting = one_decided unmet tests Met (one_refuses, (one_refuses_first, (one_refuses, (one_refuses, (one_refuses, tt))))) one_met_of

  pub one_met_at : One (MetAtOf D l c d)
  one_met_at r s (t, x, e) (u, y, f) = e ∙ ap (λ (m : Meeting). m.answer) (one_meeting t u x y) ∙ sym f

  -- the part's content, and where it begins in memory; its length is its content's
  pub one_met : (p : ℕ × ℕ) → One (λ (t : List ℕ × (ℕ × ℕ)). MetOf D l p c d t.0 t.1)
  one_met p r s x y =
      let e : x.meeting ≡ y.meeting = one_meeting x.meeting y.meeting x.found y.found in
      ap₂ (λ (a : List ℕ) (b : ℕ × ℕ). (a, b)) (x.codes ∙ ap (λ (t : Meeting). take t.n (drop t.at l)) e ∙ sym y.codes) (x.begins ∙ ap (λ (t : Meeting). (p.0, p.1 + t.at * 4)) e ∙ sym y.begins)
