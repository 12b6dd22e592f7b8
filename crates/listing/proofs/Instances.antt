-- A text that is printed for a file, and one that is not. Assumes nothing.
use mathlib.Core.Path.{◌≡◌, refl, sym, ap}
use mathlib.Core.Logic.{inl, inr}
use mathlib.Core.List.{List, [], ◌∷◌}
use Prim.Native.Nat.{ℕ}
use native.Mathlib.Omega.{arith}
use lib.ListN.{get_or}
use Rattle.records.proofs.First.{good_passes}
use Rattle.blocks.specs.Block.{whole}
use Rattle.blocks.specs.File.{file_of}
use Rattle.blocks.proofs.Sound.{sound_passes}
use Rattle.blocks.proofs.Instances.{good, one_sound, one_depth, one_codes}
use Rattle.text.specs.Text.{digits, refused_text}
use Rattle.text.proofs.Instances.{printed, text_is}
use Rattle.listing.specs.Listing.{Printed}
use Rattle.listing.proofs.Pages.{one_printed}

abbrev one : List ℕ
one = 559 ∷ []

-- document 01's two lines
pub listing_holds : Printed (file_of 3 one) printed
listing_holds = inr (sound_passes (file_of 3 one) one_sound, rw (one_depth, one_codes) (inr (good_passes 3 one 1 good, sym text_is)))

-- no byte at all: "refused 9 0"
pub listing_refuses : Printed [] (refused_text 9 0)
unfolding whole
listing_refuses = inl (_, inl (refl, refl), refl)

pub listing_fails : Printed [] [] → ⊥
unfolding digits refused_text
listing_fails h = let e : ◌≡◌ {A = ℕ} 0 114 = ap (λ (l : List ℕ). get_or l 0 0) (one_printed [] [] (refused_text 9 0) h listing_refuses) in omega arith
