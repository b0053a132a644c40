-- An image that was found, as data, and what a reader of images answers.
use Rattle.std.specs.Prelude.{◌≡◌, length, Result, Ok, Err, Option, Some, None, IfOk, IfSome}
use Rattle.row_journal.specs.declared.images.Image.{Image}
use Rattle.row_journal.specs.Forms.{spelled}
use Rattle.row_journal.specs.Images.{ImageData}

abbrev pub image_of : Image → ImageData
image_of i = record {
  half = i.half;
  version = i.version;
  epoch = i.epoch;
  start = i.start;
  payloads = i.payloads.items;
}

-- an image that has P, or none exactly where none has P
abbrev pub Exactly : {E : Type 0} → (ImageData → Type 0) → Result (Option Image) E → Type 0
Exactly P (Ok (Some i)) = P (image_of i)
Exactly P (Ok None) = (i : ImageData) → ¬ P i
Exactly P (Err e) = Unit {0}

-- the number of bytes that its records take
abbrev pub HasLength : {E : Type 0} → Result (Option Image) E → Type 0
HasLength result = IfOk result (λ found. IfSome found (λ i. i.len ≡ length (spelled i.version 1 i.payloads.items)))
