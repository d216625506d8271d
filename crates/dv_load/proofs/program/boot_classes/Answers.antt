use Rattle.std.proofs.Common.{◌≡◌, [], Ok, ◌∙◌}
use Rattle.dv_boot.specs.declared.text.TheConstants.{BOOT_TEXT}
use Rattle.dv_load.proofs.BootTexts.{boot_read, boot_refused}
use Rattle.dv_load.proofs.program.boot_classes.Goals as goal

pub returns-in-Ok : goal.returns-in-Ok
returns-in-Ok c =
    let same : c.as_bytes.result.now ≡ BOOT_TEXT.now = cc in
    c.into_vec.ensures ∙ boot_read c.as_bytes.result.now (Ok c.in-Ok.read) same c.in-Ok.ensures

pub returns-in-Err-At : goal.returns-in-Err-At
returns-in-Err-At c =
    let same : c.as_bytes.result.now ≡ BOOT_TEXT.now = cc in
    let none : c.new.result.items ≡ [] = cc in
    none ∙ boot_refused c.as_bytes.result.now c.in-Err-At.field-0 _ _ same c.in-Err-At.field-0-is c.in-Err-At.ensures
