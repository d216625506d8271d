-- From what is spelled at an address to what an image fetches there, and steps one after another.
use Rattle.std.proofs.Common.{◌≡◌, ◌<◌, ◌≤◌, ℕ, suc, List, [], ◌∷◌, length, drop, Bool, true, false, Option, Some, None, refl, sym, ap, ◌∙◌, subst, arith, drop-cons}
use Rattle.std.specs.Prelude.{nat_lt, slice_index}
use Rattle.std.proofs.lemmas.Bool.{ltb-true, ltb-false}
use Rattle.std.proofs.lemmas.Option.{same_Some}
use Rattle.std.proofs.lemmas.List.{length-drop}
use Rattle.dv_defs.specs.declared.names.MethodId.{MethodId}
use Rattle.dv_defs.specs.Decoding.{insn_here}
use Rattle.dv_defs.specs.Images.{Image}
use Rattle.dv_defs.specs.Op.{Op, is_local}
use Rattle.dv_typing.specs.Statics.{At, fetch}
use Rattle.dv_defs.specs.Tiling.{tiles_in, tiling}
use Rattle.dv_words.specs.Local.{word_local}
use Rattle.dv_words.specs.Stepping.{KeysRise, KeysRiseAmong, RanLocally, StepsLocally, local_by, local_here, locals_here, on_frame}
use Rattle.law_words.proofs.Fetching.{is_fetched, read_here, tiles_are}
use Rattle.dv_words.specs.declared.state.Frame.{Frame}
use Rattle.dv_local.specs.declared.here.Here.{Here}
use Rattle.dv_local.specs.Spelled.{IsOp, IsOpHere, SteppedHere, rest_of}
use Rattle.dv_local.specs.Units.{HasUnits, RanUnits, SteppedUnits}

-- ---- at an address of units

module _ (h : Here) (done : Bool) (s t : Frame) (at : s.at ≡ h.at) (split : drop h.at h.units.now ≡ h.first ∷ rest_of h) where
  op_here : (op : Op) (next : ℕ) → IsOp h.units.now s.at (drop s.at h.units.now) op next → IsOpHere h op next
  op_here op next x =
      let y : IsOp h.units.now h.at (drop h.at h.units.now) op next = subst (λ (n : ℕ). IsOp h.units.now n (drop n h.units.now) op next) at x in
      subst (λ (us : List ℕ). IsOp h.units.now h.at us op next) split y

  pub stepped : SteppedHere h done s t → SteppedUnits h.units.now done s t
  stepped d = record {
    method = d.method;
    local = λ op next x. d.local op next (op_here op next x);
    goes = λ op next x e rise. d.goes op next (op_here op next x) e rise;
    stays = d.stays;
  }

pub split_at : (units : List ℕ) (at : ℕ) → at < length units → drop at units ≡ slice_index units at ∷ drop (suc at) units
split_at units at l = drop-cons units at 0 l

no_units : (units : List ℕ) → length units ≡ 0 → units ≡ []
no_units [] e = refl
no_units (u ∷ us) e = absurd (let d : suc (length us) ≡ 0 = e in omega (arith, d))

-- past the end nothing is spelled
pub past_end : (units : List ℕ) (s : Frame) → length units ≤ s.at → SteppedUnits units false s s
past_end units s l = record {
  method = refl;
  local = λ op next x. absurd (none op next x);
  goes = λ op next x e rise. absurd (cc e);
  stays = λ e. refl;
}
  where
    none : (op : Op) (next : ℕ) → IsOp units s.at (drop s.at units) op next → ⊥
    none op next x =
        let e : drop s.at units ≡ [] = no_units (drop s.at units) (omega (arith, length-drop s.at units, l)) in
        let d : None ≡ Some (record { insn = x.insn; size = x.size }) = sym (ap insn_here e) ∙ x.read in cc d

-- ---- what is fetched is spelled there

pub fetched_op : (image : Image) (n at : ℕ) (units : List ℕ) (x : At) → HasUnits image n units → fetch image n at ≡ Some x → IsOp units at (drop at units) x.op x.next
fetched_op image n at units x u e =
    let r = read_here image n at units x (record { code = u.code; has_code = u.has_code; same_units = u.same_units; has_at = e }) in
    let read = subst (λ (us : List ℕ). insn_here (drop at us) ≡ Some (record { insn = r.insn; size = r.size })) (sym u.same_units) r.read in
    let f = is_fetched image u.code at r.insn r.size x n u.has_code e read in
    record {
      image = image;
      code = u.code;
      tiles = tiles_are image n u.code u.has_code ∙ ap (λ (us : List ℕ). tiles_in (tiling us)) u.same_units;
      insn = r.insn;
      size = r.size;
      read = r.read;
      resolved = f.op;
      after = r.next;
    }

-- a step over units is a step of an image
pub steps_locally : (image : Image) (units : List ℕ) (done : Bool) (s t : Frame) → HasUnits image s.method.0 units → SteppedUnits units done s t → StepsLocally image done s t
steps_locally image units done s t u d = record {
  local = λ x e. d.local x.op x.next (fetched_op image s.method.0 s.at units x u e);
  goes = λ x e l rise. d.goes x.op x.next (fetched_op image s.method.0 s.at units x u e) (sym (d.local x.op x.next (fetched_op image s.method.0 s.at units x u e)) ∙ l) rise;
  stays = d.stays;
}

-- ---- one after another

-- so many steps lead there, in each image where the method has these units
pub record Reached (units : List ℕ) (n : ℕ) (s t : Frame) : Type 0 where
  pub method : t.method ≡ s.method
  pub local :
      (image : Image) → HasUnits image s.method.0 units → (k : ℕ) (u : Frame) (x : At) → k < n → KeysRiseAmong image k s →
      locals_here image k s ≡ Some u → fetch image u.method.0 u.at ≡ Some x → is_local x.op ≡ true
  pub there : (image : Image) → HasUnits image s.method.0 units → KeysRiseAmong image n s → (u : Frame) → locals_here image n s ≡ Some u → t ≡ u

pub reached_start : (units : List ℕ) (s : Frame) → Reached units 0 s s
reached_start units s = record { method = refl; local = λ image u k v x l rise e f. absurd (omega (arith, l)); there = λ image u rise v e. same_Some s v e }

has_units_of : (image : Image) (m n : MethodId) (units : List ℕ) → m ≡ n → HasUnits image n.0 units → HasUnits image m.0 units
has_units_of image m n units e u = subst (λ (k : MethodId). HasUnits image k.0 units) (sym e) u

abbrev by_local : Bool → Frame → Option Frame
by_local b f = elim b [ true ↦ Some f | false ↦ None ]

module _ (image : Image) (units : List ℕ) (t v : Frame) (u : HasUnits image t.method.0 units) (d : SteppedUnits units true t v)
    (rise : (x : At) → fetch image t.method.0 t.at ≡ Some x → KeysRise x.op) where
  local_op : (x : At) (b : Bool) (w : Frame) → fetch image t.method.0 t.at ≡ Some x → by_local b (word_local x.op t x.next) ≡ Some w → v ≡ w
  local_op x false w f e = absurd (cc e)
  local_op x true w f e = d.goes x.op x.next (fetched_op image t.method.0 t.at units x u f) refl (rise x f) ∙ same_Some _ w e

  local_at : (o : Option At) (w : Frame) → fetch image t.method.0 t.at ≡ o → local_by o t ≡ Some w → v ≡ w
  local_at None w f e = absurd (cc e)
  local_at (Some x) w f e = local_op x (is_local x.op) w f e

  local_next : (w : Frame) → local_here image t ≡ Some w → v ≡ w
  local_next w e = local_at (fetch image t.method.0 t.at) w refl e

pub reached_on : (units : List ℕ) (n : ℕ) (s t v : Frame) → Reached units n s t → SteppedUnits units true t v → Reached units (suc n) s v
reached_on units n s t v r d =
    record {
      method = d.method ∙ r.method;
      local = λ image u k w x l rise e f. each image u k w x (nat_lt k n) refl l rise e f;
      there = λ image u rise w e. by image u rise w (locals_here image n s) refl e;
    }
  where
    -- the last one stands where those before it led
    last : (image : Image) → HasUnits image s.method.0 units → (w : Frame) (x : At) → KeysRiseAmong image n s → locals_here image n s ≡ Some w → fetch image w.method.0 w.at ≡ Some x → is_local x.op ≡ true
    last image u w x rise e f =
        let same : t ≡ w = r.there image u rise w e in
        let here : fetch image t.method.0 t.at ≡ Some x = subst (λ (p : Frame). fetch image p.method.0 p.at ≡ Some x) (sym same) f in
        d.local x.op x.next (fetched_op image t.method.0 t.at units x (has_units_of image t.method s.method units r.method u) here)

    each : (image : Image) → HasUnits image s.method.0 units → (k : ℕ) (w : Frame) (x : At) (b : Bool) → nat_lt k n ≡ b → k < suc n → KeysRiseAmong image k s → locals_here image k s ≡ Some w → fetch image w.method.0 w.at ≡ Some x → is_local x.op ≡ true
    each image u k w x true before l rise e f = r.local image u k w x (ltb-true k n before) rise e f
    each image u k w x false before l rise e f =
        let same : k ≡ n = let late = ltb-false k n before in omega (arith, l, late) in
        last image u w x (subst (λ (j : ℕ). KeysRiseAmong image j s) same rise) (sym (ap (λ (j : ℕ). locals_here image j s) same) ∙ e) f

    by : (image : Image) → HasUnits image s.method.0 units → KeysRiseAmong image (suc n) s → (w : Frame) (o : Option Frame) → locals_here image n s ≡ o → on_frame o (local_here image) ≡ Some w → v ≡ w
    by image u rise w None f e = absurd (cc e)
    by image u rise w (Some p) f e =
        let same : t ≡ p = r.there image u (λ k q x l. rise k q x (omega (arith, l))) p f in
        let here : (x : At) → fetch image t.method.0 t.at ≡ Some x → KeysRise x.op = λ x g. rise n p x (omega arith) f (subst (λ (q : Frame). fetch image q.method.0 q.at ≡ Some x) same g) in
        local_next image units t v (has_units_of image t.method s.method units r.method u) d here w (ap (local_here image) same ∙ e)

-- all that may be done was done
pub ran_all : (units : List ℕ) (most : ℕ) (s t : Frame) → Reached units most s t → RanUnits units most most s t
ran_all units most s t r = record {
  few = omega arith;
  ran = λ image u. record { few = omega arith; local = r.local image u; reached = r.there image u; whole = λ l x e. absurd (omega (arith, l)) };
}

-- no local instruction stands where it ended
pub ran_some : (units : List ℕ) (most done : ℕ) (s t v : Frame) → done ≤ most → Reached units done s t → SteppedUnits units false t v → RanUnits units most done s v
ran_some units most done s t v l r d = record {
  few = l;
  ran = λ image u.
      let same : v ≡ t = d.stays refl in
      let has = has_units_of image t.method s.method units r.method u in
      subst (λ (w : Frame). RanLocally image most done s w) (sym same)
      (record { few = l; local = r.local image u; reached = r.there image u; whole = λ m x e. d.local x.op x.next (fetched_op image t.method.0 t.at units x has e) });
}
