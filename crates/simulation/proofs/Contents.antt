-- What a version holds, as the code has it: the same as in the model, there and back, and so is what is answered for it.
use Rattle.std.specs.Prelude.{Some, None}
use mathlib.Core.Path.{◌≡◌, refl}
use mathlib.Core.Option.{none, some}
use Rattle.model.specs.Store as Model
use Rattle.model.specs.Steps.{answer_for}
use Rattle.values.specs.Meaning.{Content}
use Rattle.values.specs.Meaning.{content_of, content_rep, answer_of}
use Rattle.showing.specs.Shown.{answer_to}

pub content_back : (c : Content) → content_rep (content_of c) ≡ c
content_back None = refl
content_back (Some x) = refl

pub answer_same : (v : Model.Content) → answer_of (answer_to (content_rep v)) ≡ answer_for v
unfolding answer_for
answer_same none = refl
answer_same (some x) = refl

pub content_is : (v : Model.Content) → content_of (content_rep v) ≡ v
content_is none = refl
content_is (some x) = refl
