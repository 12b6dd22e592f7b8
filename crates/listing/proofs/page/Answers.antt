-- `listing::page` meets its contract: neither the codes nor the text are ever short of room.
use Rattle.std.proofs.Common.{◌≡◌, ◌≤◌, ℕ, List, length, Result, Ok, refl, ap, inr, arith, rules, take}
use Rattle.cells.specs.Answer.{given}
use Rattle.cells.specs.Refusals.{answer_of}
use Rattle.cells.specs.declared.Answer.{Answer}
use Rattle.cells.specs.declared.refusals.Refusal.{Refusal}
use Rattle.cells.proofs.Refused.{is_success}
use Rattle.records.specs.Writing.{stands}
use Rattle.records.proofs.First.{good_passes}
use Rattle.blocks.specs.Block.{depth_of, codes}
use Rattle.blocks.specs.Calls.{ReadAnswer, read_answer, ReadOf}
use Rattle.blocks.proofs.Sound.{shallow_file, sound_passes}
use Rattle.blocks.proofs.Theorems.{ReadSuccess, read_success}
use Rattle.text.specs.Text.{text_of, TextOf, refused_text}
use Rattle.listing.specs.Listing.{longest, most_codes, longest_text, Printed}
use Rattle.listing.proofs.Pages.{few_codes, text_length, refused_printed, text_left, refused_left, page_of}
use Rattle.listing.proofs.page.Goals as goal

-- a call that left the text t over o
abbrev Left : List ℕ → List ℕ → Result ℕ Refusal → List ℕ → Type 0
Left t o r after = ◌≡◌ {A = Answer × List ℕ} (answer_of r, after) (given (length t), stands t o)

succeeds : (t o : List ℕ) (r : Result ℕ Refusal) (after : List ℕ) → Left t o r after → r ≡ Ok (length t)
succeeds t o r after e = is_success r (length t) (ap (λ (x : Answer × List ℕ). x.0) e)

-- ---- a file that is refused

pub unwrap-requires : goal.unwrap-requires
unwrap-requires c =
    let a = c.told-depth.result.0 in
    let o = c.args.text.now in
    let left = refused_left a.number a.place o (answer_of c.refused_text.result) _ c.refused_text.ensures (omega (arith, c.requires.2)) in
    rw (succeeds (refused_text a.number a.place) o c.refused_text.result _ left) (search rules)

pub returns-then-answer-ne0 : goal.returns-then-answer-ne0
returns-then-answer-ne0 c =
    let a = c.told-depth.result.0 in
    let b = c.args.bytes.now in
    let o = c.args.text.now in
    let left = refused_left a.number a.place o (answer_of c.refused_text.result) _ c.refused_text.ensures (omega (arith, c.requires.2)) in
    let some : a.number ≡ 0 → ⊥ = λ z. absurd (omega (arith, c.if-answer-ne0.true, z)) in
    let line = refused_printed b c.args.codes.now (read_answer c.read.result) _ c.read.ensures (rw c.told-depth.ensures at some) c.requires.0 c.requires.1 in
    page_of b o (refused_text a.number a.place) (given c.unwrap.result) _ (rw c.told-depth.ensures line) (rw c.unwrap.ensures at left)

-- ---- a file that is read

module _ (b w o : List ℕ) (found : ReadAnswer) (w' : List ℕ) (short : length b ≤ longest) (room : longest_text ≤ length o) (read : ReadOf b w found w') (none : found.answer.number ≡ 0) where
  file : ReadSuccess b w found w'
  file = read_success b w found w' read none

  printed : Printed b (text_of (depth_of b) (codes b))
  printed = inr (sound_passes b file.is_sound, inr (good_passes (depth_of b) (codes b) 1 file.good, refl))

  -- what `list_text` left, of the list that was read
  listed : (r : Result ℕ Refusal) (after : List ℕ) → TextOf found.depth (take found.answer.place w') o (answer_of r) after → Left (text_of (depth_of b) (codes b)) o r after
  listed r after text =
      let h = shallow_file b file.is_sound in
      let few : length (codes b) ≤ most_codes = few_codes b file.is_sound short in
      text_left (depth_of b) (codes b) o (answer_of r) after (rw (file.is_depth, file.front.is_front) at text) h file.good (omega (arith, text_length (depth_of b) (codes b) h, few, room))

pub unwrap-requires-2 : goal.unwrap-requires-2
unwrap-requires-2 c =
    let b = c.args.bytes.now in
    let o = c.args.text.now in
    let found = read_answer c.read.result in
    let zero : c.told-depth.result.0.number ≡ 0 = omega (arith, c.if-answer-ne0.false) in
    let none : found.answer.number ≡ 0 = rw c.told-depth.ensures at zero in
    let left = listed b c.args.codes.now o found c.read.new.out c.requires.0 c.requires.2 c.read.ensures none c.list_text.result c.list_text.new.bytes (rw c.told-depth.ensures at c.list_text.ensures) in
    rw (succeeds (text_of (depth_of b) (codes b)) o c.list_text.result _ left) (search rules)

pub returns : goal.returns
returns c =
    let b = c.args.bytes.now in
    let o = c.args.text.now in
    let found = read_answer c.read.result in
    let zero : c.told-depth.result.0.number ≡ 0 = omega (arith, c.if-answer-ne0.false) in
    let none : found.answer.number ≡ 0 = rw c.told-depth.ensures at zero in
    let left = listed b c.args.codes.now o found c.read.new.out c.requires.0 c.requires.2 c.read.ensures none c.list_text.result c.list_text.new.bytes (rw c.told-depth.ensures at c.list_text.ensures) in
    page_of b o (text_of (depth_of b) (codes b)) (given c.unwrap-2.result) _ (printed b c.args.codes.now o found c.read.new.out c.requires.0 c.requires.2 c.read.ensures none) (rw c.unwrap-2.ensures at left)
