-- What runs take of a verified image.
use Rattle.std.proofs.Common.{◌≡◌, ◌<◌, ℕ, List, Option, Some, None, length, refl}
use Rattle.std.specs.Prelude.{slice_get}
use Rattle.std.proofs.lemmas.Option.{slice_get_within}
use Rattle.dv_defs.specs.declared.image.MethodInfo.{MethodInfo}
use Rattle.dv_typing.specs.Accepting.{Accepts}
use Rattle.dv_defs.specs.Images.{Image}
use Rattle.dv_defs.specs.Linked.{IsImage}
use Rattle.dv_defs.specs.Op.{Code, code_at, code_of}
use Rattle.dv_defs.specs.Pools.{Method, method_at, with_info}
use Rattle.dv_machine.specs.Accepted.{Accepted}
use Rattle.dv_machine.specs.WellTyped.{Typings}
use Rattle.dv_rules.specs.declared.verified.Map.{Map}
use Rattle.dv_rules.specs.Verified.{IsVerified, typing_at}
use Rattle.law_machine.proofs.lemmas.Bridge.Laws.{bridge_holds}
use Rattle.law_linked.proofs.LinkedLaw.{linked_images_have_linking}

-- the typings of a verified image are those that acceptance wants
pub accepts : (image : Image) (maps : List Map) → IsVerified image maps → Accepts image
accepts image maps v n code at = record { static = v.static n code at; typing = typing_at (slice_get maps n); is_typing = v.typed n code at }

pub verified_is_accepted : (image : Image) (maps : List Map) → IsImage image → IsVerified image maps → (T : Typings) × Accepted image T
verified_is_accepted image maps is v = bridge_holds image (linked_images_have_linking image is) (accepts image maps v)

-- ---- members have numbers below how many there are

method_within : (image : Image) (n : ℕ) (m : Method) → method_at image n ≡ Some m → n < length image.methods
unfolding method_at
method_within image n m e = go (slice_get image.methods n) refl e
  where
    go : (o : Option MethodInfo) → slice_get image.methods n ≡ o → with_info image n o ≡ Some m → n < length image.methods
    go None g e = absurd (cc)
    go (Some i) g e = slice_get_within image.methods n i g

pub code_within : (image : Image) (n : ℕ) (code : Code) → code_at image n ≡ Some code → n < length image.methods
unfolding code_at
code_within image n code e = go (method_at image n) refl e
  where
    go : (o : Option Method) → method_at image n ≡ o → code_of o ≡ Some code → n < length image.methods
    go None g e = absurd (cc)
    go (Some m) g e = method_within image n m g
