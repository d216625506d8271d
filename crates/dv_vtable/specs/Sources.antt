-- What tables of methods are made from.
use Rattle.std.specs.Prelude.{◌≡◌, ◌<◌, ◌^◌, ℕ, [], length, sum_by, All, Some, None, slice_index_or}
use Rattle.dv_defs.specs.declared.names.ClassId.{ClassId}
use Rattle.dv_defs.specs.declared.names.MethodId.{MethodId}
use Rattle.dv_defs.specs.declared.class.MethodDef.{MethodDef}
use Rattle.dv_defs.specs.declared.image.Select.{Select}
use Rattle.dv_defs.specs.declared.image.Select.TheVariants as select
use Rattle.dv_defs.specs.Images.{Image}
use Rattle.dv_defs.specs.First.{first_below}
use Rattle.dv_defs.specs.LinkFaults.{method_twice}
use Rattle.dv_defs.specs.Linked.{defs}
use Rattle.dv_defs.specs.LookUp.{interfaces_above, once}
use Rattle.dv_defs.specs.Numbering.{all_methods_declared}
use Rattle.dv_defs.specs.Order.{numbers}
use Rattle.dv_defs.specs.Pools.{Method, method_at}
use Rattle.dv_defs.specs.Selecting.{itself}
use Rattle.law_linking.specs.Ordered.{IsOrdered}
use Rattle.law_linking.specs.Stripped.{AreInRange}
use Rattle.dv_vtable.specs.declared.sources.Declared.{Declared}
use Rattle.dv_vtable.specs.declared.sources.Sources.{Sources}
use Rattle.dv_vtable.specs.Numbered.{AreNumbers}

-- the classes are in order, and none declares a method twice; their methods and keys are numbered, and the interfaces above each are known
pub record AreSources (p : Sources) : Type 0 where
  pub few_methods : sum_by (λ c. length c.def.methods) p.infos.now < 2 ^ 31
  pub range : AreInRange p.infos.now
  pub ordered : (image : Image) → image.classes ≡ p.infos.now → IsOrdered image
  pub each_once : All (λ c. first_below (method_twice c.methods) (length c.methods) ≡ None) (defs p.infos.now)
  pub methods : p.methods.now ≡ all_methods_declared 0 (defs p.infos.now)
  pub numbered : AreNumbers p.infos.now p.keys.now.firsts.items p.keys.now.numbers.items p.keys.now.keys.items
  pub interfaces : (image : Image) → image.classes ≡ p.infos.now → (c : ℕ) → numbers (slice_index_or p.interfaces.now c []) ≡ once (interfaces_above image c)

-- an image has these classes and methods
pub record IsOf (p : Sources) (image : Image) : Type 0 where
  pub classes : image.classes ≡ p.infos.now
  pub methods : image.methods ≡ p.methods.now

-- a method as it is shown: the class that declares it, and its definition
abbrev pub Shown : Type 0
Shown = ClassId × MethodDef

abbrev pub of_declared : Declared → Shown
of_declared m = (m.class, m.def.now)

abbrev pub of_method : Method → Shown
of_method m = (m.info.class, m.def)

-- what a call that finds the method of a number selects
abbrev pub itself_at : Image → MethodId → Select
itself_at image id = elim (method_at image id.0) [ None ↦ select.Abstract | Some m ↦ itself m ]
