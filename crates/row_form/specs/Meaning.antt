-- What the forms of a row mean: those of H14, as the model has them.
use Rattle.model.specs.Digits as Model
use Rattle.row_form.specs.declared.Form.{Form}
use Rattle.row_form.specs.declared.Form.TheVariants.{Old, New}

abbrev pub form_of : Form → Model.Form
form_of Old = Model.Old
form_of New = Model.New
