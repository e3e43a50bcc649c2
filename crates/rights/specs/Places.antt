-- The registers that a row of rights is asked about.
use Rattle.std.specs.Prelude.{Bool, Option, Some, None, ℕ}
use Rattle.model.specs.Rights as Model

-- a row gives worker w the right, whatever its registers are, or for register r
abbrev pub gives_in : ℕ → Model.Permission → Option ℕ → ℕ → Bool
gives_in w p None row = Model.gives w p row
gives_in w p (Some r) row = Model.gives_on w p r row
