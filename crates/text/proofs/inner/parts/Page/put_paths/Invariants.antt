-- The paths of the leaves so far are put, at any depth at which the codes are proper.
use Rattle.std.proofs.Common.{◌≡◌, ℕ, ◌+◌, ◌*◌, ◌≤◌, take}
use Rattle.records.specs.Record.{Ordered}
use Rattle.text.specs.Text.{path_lines}
use Rattle.text.specs.Inner.{Puts, longest_path}
use Rattle.text.proofs.inner.parts.Page.put_paths.Given as goal

abbrev pub invariant-loop-code : goal.invariant-loop-code
invariant-loop-code l = record {
  same : l.self.bytes.ghost_name ≡ l.initial.self.bytes.ghost_name;
  near : l.self.at ≤ l.initial.self.at + longest_path * l.code-index;
  text : (D : ℕ) → Ordered D 0 l.list → Puts l.initial.self (path_lines D (take l.code-index l.list)) l.self;
}
