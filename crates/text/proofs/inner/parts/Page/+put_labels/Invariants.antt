-- The recursion follows `labels`: the measure is the code.
use Rattle.text.proofs.inner.parts.Page.+put_labels.Given as goal

abbrev pub decreases-put_labels : goal.decreases-put_labels
decreases-put_labels l = l.code
