-- A body without static faults is clean.
use Rattle.std.specs.Prelude.{◌≡◌, ℕ, slice_get, Some, IfSome}
use Rattle.std.proofs.lemmas.List.Elements.{All-weaker}
use Rattle.dv_defs.specs.Images.{Image}
use Rattle.dv_defs.specs.Op.{Code, code_at}
use Rattle.dv_typing.specs.Flow.{Catcher, handlers_at}
use Rattle.law_flow.specs.Clean.{IsHandler, IsClean}
use Rattle.law_flow.specs.Laws.{CleanBodies}
use Rattle.law_flow.proofs.Statics.{IsStatic, is_static_body, has_start, has_room, own_number, own_code, fetched_at, fetched_begins}
use Rattle.law_flow.proofs.Targets.{IsCatcher, jumps_begin, handlers_kept}

-- what a handler catches is a type of the body
abbrev IsMet : Code → Catcher → Type 0
IsMet code h = IfSome h.ty (λ t. (k : ℕ) × (slice_get code.body.types k ≡ Some t))

is_handler : (code : Code) (h : Catcher) → IsCatcher code h → IsHandler code h
is_handler code h kept = record { leads = kept.leads; catches = kept.catches }

clean_by : (image : Image) (code : Code) → code_at image code.method.id ≡ Some code → IsStatic image code → IsClean image code
clean_by image code has s =
    record {
      tiled = s.tiled;
      start = has_start image code s;
      room = has_room image code s;
      each = fetched_at image code has s;
      only = λ at x e. fetched_begins image code.method.id at code x has e;
      jumps_lead = λ at x e. jumps_begin image code.method.id at code x has e;
      handlers_lead = λ at.
          All-weaker (IsCatcher code) (IsHandler code) (is_handler code) (handlers_at image code.method.id at)
          (handlers_kept image code.method.id at code has s);
      handlers_met = λ at.
          All-weaker (IsCatcher code) (IsMet code) (λ h kept. kept.met) (handlers_at image code.method.id at)
          (handlers_kept image code.method.id at code has s);
    }

pub clean_bodies : CleanBodies
clean_bodies image n code has none =
    (own_number image n code has, clean_by image code (own_code image n code has) (is_static_body image n code has none))
