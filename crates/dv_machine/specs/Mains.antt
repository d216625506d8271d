-- The methods with which a run may begin.
use Rattle.std.specs.Prelude.{◌≡◌, ℕ, true, [], ◌∷◌, Some, None, ◌⊎◌}
use Rattle.dv_defs.specs.Images.{Image}
use Rattle.dv_defs.specs.Names.{string_name, main_name}
use Rattle.dv_defs.specs.Types.{of_class}
use Rattle.dv_defs.specs.Pools.{Method, method_at, is_static}
use Rattle.dv_defs.specs.Op.{Code, code_at}

-- a static main()V or main([Ljava/lang/String;)V with a body
pub record IsMain (image : Image) (main : Method) : Type 0 where
  pub there : method_at image main.id ≡ Some main
  pub named : main.def.name ≡ main_name
  pub static : is_static main ≡ true
  pub code : Code
  pub has_code : code_at image main.id ≡ Some code
  pub void : main.def.proto.ret ≡ None
  pub form : (main.def.proto.params ≡ []) ⊎ (main.def.proto.params ≡ record { dims = 1; base = (of_class string_name).base } ∷ [])

-- the method of this number is a main method
pub record HasMain (image : Image) (number : ℕ) : Type 0 where
  pub method : Method
  pub is_main : IsMain image method
  pub numbered : method.id ≡ number
