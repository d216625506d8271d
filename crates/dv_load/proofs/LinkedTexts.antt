-- The laws of texts and of their images.
use Rattle.std.proofs.Common.{◌≡◌, ◌≢◌, ℕ, ◌+◌, Bool, true, false, List, [], ◌∷◌, ◌++◌, map, Option, Some, None, Result, Ok, Err, refl, sym, ap, subst, ◌∙◌}
use Rattle.std.specs.List.{All, enumerate_from}
use Rattle.std.proofs.lemmas.List.Elements.{All-nil, All-append}
use Rattle.dv_defs.specs.declared.class.ClassDef.{ClassDef}
use Rattle.dv_defs.specs.declared.image.ClassInfo.{ClassInfo}
use Rattle.dv_defs.specs.declared.run.Entry.{Entry}
use Rattle.dv_defs.specs.Images.{Image}
use Rattle.dv_defs.specs.LinkFaults.{Found}
use Rattle.dv_defs.specs.Linked.{IsImage, AreNamed, class_with_table, defs, linked, resolved, slotted, tabled, unless_found}
use Rattle.dv_defs.specs.Numbering.{numbered}
use Rattle.dv_lex.specs.declared.line.Stop.{Stop}
use Rattle.dv_lex.specs.Lines.{Reading, reading_of}
use Rattle.dv_boot.specs.declared.text.TheConstants.{BOOT_TEXT}
use Rattle.dv_classread.specs.declared.text.Read.{Read}
use Rattle.dv_classread.specs.Programs.{program_of}
use Rattle.dv_hier.proofs.Built.{defs_slotted}
use Rattle.dv_console.specs.declared.refusals.Refusal.{Refusal}
use Rattle.dv_load.specs.declared.program.Scheduled.{Scheduled}
use Rattle.dv_load.specs.Images.{boot_classes, boot_count, by_linking, by_reading, by_scheduled, classes_read, image_in, image_of, scheduled_in, with_log}
use Rattle.dv_load.specs.Laws.{BootClassesAreNamed, ReadClassesAreNamed, ScheduledTextsGiveImages, TextsGiveImages}
use Rattle.dv_load.proofs.ReadTexts.{IsSoundClass, all_named, all_valued, read_sound}

-- ---- classes that are read

pub read_classes_are_named : ReadClassesAreNamed
read_classes_are_named schedule r read e = all_named read.classes (read_sound schedule r read e)

any_sound : (r : Reading) (o : Result Read Stop) → program_of false r ≡ o → All IsSoundClass (classes_read o)
any_sound r (Ok read) e = read_sound false r read e
any_sound r (Err bad) e = All-nil IsSoundClass

boot_sound : All IsSoundClass boot_classes
unfolding boot_classes
boot_sound = any_sound (reading_of BOOT_TEXT.now) (program_of false (reading_of BOOT_TEXT.now)) refl

pub boot_classes_are_named : BootClassesAreNamed
boot_classes_are_named = all_named boot_classes boot_sound

-- the boot classes, and others behind them
pub both_named : (cs : List ClassDef) → AreNamed cs → AreNamed (boot_classes ++ cs)
both_named cs named = All-append (λ c. c.name ≢ []) boot_classes cs boot_classes_are_named named

-- ---- images

defs_tabled : (image : Image) (k : ℕ) (cs : List ClassInfo) → defs (map (class_with_table image) (enumerate_from k cs)) ≡ defs cs
defs_tabled image k [] = refl
defs_tabled image k (c ∷ cs) = ap (λ ds. c.def ∷ ds) (defs_tabled image (k + 1) cs)

-- what linking gives of classes, where it finds no fault
abbrev whole : List ClassDef → ℕ → Image
whole cs boot = resolved (tabled (slotted (numbered cs boot)))

-- its definitions are those classes
whole_defs : (cs : List ClassDef) (boot : ℕ) → defs (whole cs boot).classes ≡ cs
unfolding resolved tabled
whole_defs cs boot = defs_tabled (slotted (numbered cs boot)) 0 (slotted (numbered cs boot)).classes ∙ defs_slotted cs boot

whole_boot : (cs : List ClassDef) (boot : ℕ) → (whole cs boot).boot ≡ boot
unfolding resolved tabled slotted numbered
whole_boot cs boot = refl

found_none : (o : Option Found) (x image : Image) → unless_found o x ≡ Ok image → x ≡ image
found_none None x image e = cc
found_none (Some fault) x image e = absurd (cc)

linked_whole : (cs : List ClassDef) (boot : ℕ) (image : Image) → linked cs boot ≡ Ok image → whole cs boot ≡ image
unfolding linked
linked_whole cs boot image e = found_none _ (whole cs boot) image e

module _ (cs : List ClassDef) (boot : ℕ) (image : Image) (e : linked cs boot ≡ Ok image) where
  its_defs : defs image.classes ≡ cs
  its_defs = sym (ap (λ (i : Image). defs i.classes) (linked_whole cs boot image e)) ∙ whole_defs cs boot

  its_boot : image.boot ≡ boot
  its_boot = sym (ap (λ (i : Image). i.boot) (linked_whole cs boot image e)) ∙ whole_boot cs boot

  linked_again : linked (defs image.classes) image.boot ≡ Ok image
  linked_again = ap (λ ds. linked ds image.boot) its_defs ∙ (ap (linked cs) its_boot ∙ e)

  linked_image : All IsSoundClass cs → IsImage image
  linked_image sound =
      let are : All IsSoundClass (defs image.classes) = subst (All IsSoundClass) (sym its_defs) sound in
      record { is_linked = linked_again; named = all_named (defs image.classes) are; values = all_valued (defs image.classes) are }

linking_gave : (o : Result Image Found) (image : Image) → by_linking o ≡ Ok image → o ≡ Ok image
linking_gave (Ok x) image e = cc
linking_gave (Err fault) image e = absurd (cc)

-- with a schedule or without one
read_image : (schedule : Bool) (r : Reading) (read : Read) (image : Image) → program_of schedule r ≡ Ok read → image_of read.classes ≡ Ok image → IsImage image
read_image schedule r read image at e =
    let cs : List ClassDef = boot_classes ++ read.classes in
    linked_image cs boot_count image (linking_gave (linked cs boot_count) image e)
    (All-append IsSoundClass boot_classes read.classes boot_sound (read_sound schedule r read at))

alone_image : (r : Reading) (o : Result Read Stop) (image : Image) → program_of false r ≡ o → by_reading o ≡ Ok image → IsImage image
alone_image r (Ok read) image at e = read_image false r read image at e
alone_image r (Err bad) image at e = absurd (cc)

pub texts_give_images : TextsGiveImages
unfolding image_in
texts_give_images bytes image e = alone_image (reading_of bytes) (program_of false (reading_of bytes)) image refl e

its_image : (log : List Entry) (o : Result Image Refusal) (s : Scheduled) → with_log log o ≡ Ok s → o ≡ Ok s.image
its_image log (Ok image) s e =
    let made : Scheduled = record { image = image; log = log } in
    let same : made ≡ s = cc in
    ap (λ (x : Scheduled). Ok x.image) same
its_image log (Err why) s e = absurd (cc)

scheduled_image : (r : Reading) (o : Result Read Stop) (s : Scheduled) → program_of true r ≡ o → by_scheduled o ≡ Ok s → IsImage s.image
scheduled_image r (Ok read) s at e = read_image true r read s.image at (its_image read.log (image_of read.classes) s e)
scheduled_image r (Err bad) s at e = absurd (cc)

pub scheduled_texts_give_images : ScheduledTextsGiveImages
unfolding scheduled_in
scheduled_texts_give_images bytes s e = scheduled_image (reading_of bytes) (program_of true (reading_of bytes)) s refl e
