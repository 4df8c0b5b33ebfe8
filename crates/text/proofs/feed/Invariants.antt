-- `text::feed` takes a row of bytes. The invariant: feeding the bytes that are left gives what feeding all of them gives.
use Rattle.std.proofs.Common.{◌≡◌, length, drop}
use Rattle.model.specs.Text.{fed}
use Rattle.text.specs.Readings.{text_of, Kept}
use Rattle.text.proofs.feed.Given as goal

abbrev pub invariant-loop-byte : goal.invariant-loop-byte
invariant-loop-byte l = record {
  left : fed (length l.fn.numbers) (text_of l.reading l.numbers) (drop l.byte-index l.bytes)
      ≡ fed (length l.fn.numbers) (text_of l.fn.reading l.fn.numbers) l.bytes;
  kept : Kept l.fn.reading.count l.reading.count l.fn.numbers l.numbers;
}
