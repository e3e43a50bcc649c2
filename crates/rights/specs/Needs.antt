-- The code's rights and needs as the model's.
use Rattle.std.specs.Prelude.{List, [], ◌∷◌, map, ℕ}
use Rattle.model.specs.Totals.{register_of, of_group}
use Rattle.model.specs.Rights as Model
use Rattle.rights.specs.declared.Permission.{Permission}
use Rattle.rights.specs.declared.Permission.TheVariants.{Put, Read, Collect, Mark}
use Rattle.rights.specs.declared.Needed.{Needed}
use Rattle.rights.specs.declared.Needed.TheVariants.{Nothing, On, OnGroup, InAny, OnAll}

abbrev pub permission_of : Permission → Model.Permission
permission_of Put = Model.ToPut
permission_of Read = Model.ToRead
permission_of Collect = Model.ToCollect
permission_of Mark = Model.ToMark

-- what an operation needs, of a hub with these rows of totals
abbrev pub needed_in : Needed → List ℕ → Model.Needed
needed_in Nothing rows = Model.NoRight
needed_in (On p r) rows = Model.OnThese (permission_of p) (r ∷ [])
needed_in (OnGroup g) rows = Model.OnThese Model.ToRead (map register_of (of_group g rows))
needed_in (InAny p) rows = Model.InAny (permission_of p)
needed_in (OnAll p) rows = Model.OnAll (permission_of p)
