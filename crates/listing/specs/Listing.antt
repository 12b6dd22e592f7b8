-- What the listing program prints for a stored file: document 01, "Listing program". Definitions only.
use Rattle.std.specs.Prelude.{◌≡◌, List, [], ◌∷◌, ℕ, ◌+◌, ◌*◌, length}
use Rattle.cells.specs.Answer.{Decided}
use Rattle.cells.specs.declared.Answer.{Answer}
use Rattle.records.specs.Fault.{Faulty}
use Rattle.records.specs.Writing.{stands}
use Rattle.blocks.specs.Block.{block_bytes, block_codes, depth_of, codes}
use Rattle.blocks.specs.Calls.{Unsound}
use Rattle.text.specs.Text.{text_of, refused_text}
use Rattle.text.specs.Inner.{longest_head, longest_path}

-- how many blocks are read at most, their bytes, the codes that they hold at most, and the bytes of the text of those
abbrev pub most_blocks : ℕ
most_blocks = 128

abbrev pub longest : ℕ
longest = most_blocks * block_bytes

abbrev pub most_codes : ℕ
most_codes = most_blocks * block_codes

abbrev pub longest_text : ℕ
longest_text = longest_head + longest_path * most_codes

-- a refusal's line
abbrev pub refused_line : Answer → List ℕ
refused_line a = refused_text a.number a.place

-- t is the text of the file b: the listing of its list, or the line of its refusal
abbrev pub Printed : List ℕ → List ℕ → Type 0
Printed b = Decided refused_line (Unsound b ∷ Faulty (depth_of b) (codes b) 1 ∷ []) (λ t. t ≡ text_of (depth_of b) (codes b))

-- the text of the file b stands at the front of the bytes `after`, over o, and r is its length: the buffers always suffice
pub record Page (b o : List ℕ) (r : ℕ) (after : List ℕ) : Type 0 where
  pub text : List ℕ
  pub printed : Printed b text
  pub count : r ≡ length text
  pub written : after ≡ stands text o
