-- Labels worked out by document 001's rules, from the last to the first: where the cell comes to stand along each axis. Assumes nothing.
use Rattle.std.proofs.Common.{◌≡◌, ℕ, zero, suc, ◌+◌, ◌-◌, ◌*◌, ◌/◌, ◌%◌, ◌^◌, ◌<◌, refl, arith}
use Rattle.cells.specs.Place.{EachAxis, along}
use Rattle.cells.specs.Payeur.{rule, stepped, carried}
use Rattle.cells.proofs.Power.{pow2_pos, pow2_suc}
use Rattle.cells.proofs.Labelwise.{past, labelwise}
use Rattle.cells.proofs.Rules.{forth, turn, fair}

-- ---- the labels that are left, and the direction of the carry to the last of them

abbrev State : Type 0
State = (v : ℕ) × (d : ℕ) × (d < 27)

abbrev next : State → State
next (v, d, h) = (v / 8, rule (v % 8) d / 8, omega (arith, (fair (v % 8) d (omega arith) h).small))

past_carried : (k : ℕ) (s : State) → (past next k s).1 ≡ carried k s.0 s.1
unfolding carried past
past_carried zero s = refl
past_carried (suc k) s = past_carried k (next s)

pub carried_lt : (k v d : ℕ) → d < 27 → carried k v d < 27
carried_lt k v d h = rw (← past_carried k (v, d, h)) (past next k (v, d, h)).2

-- ---- along axis a: the coordinate and the step are the new coordinate and the carry times 2 ^ k (one is added to each step)

pub stepped_sum : (k v d : ℕ) → d < 27
    → (stepped k v d < 8 ^ k) × EachAxis (λ a. along (2 ^ a) k v + forth (d / 3 ^ a % 3) + 2 ^ k ≡ along (2 ^ a) k (stepped k v d) + forth (carried k v d / 3 ^ a % 3) * 2 ^ k + 1)
unfolding along stepped
stepped_sum k v d h =
    let x = labelwise {S = State}
    (λ s. rule (s.0 % 8) s.1 % 8)
    next
    (λ n s. stepped n s.0 s.1)
    (λ a n s. along (2 ^ a) n s.0 + forth (s.1 / 3 ^ a % 3) + (2 ^ n - 1))
    (λ s. omega arith) (λ s. refl) (λ n s. refl)
    (λ a l n s. omega (arith, turn a (s.0 % 8) s.1 l (omega arith) s.2, pow2_suc n, pow2_pos n)) k (v, d, h) in
    (x.0, λ a l. rw (← past_carried k (v, d, h)) (omega (arith, x.1 a l, pow2_pos k)))
