-- An accepted batch asks for itself: its rows, in tables that have room for them, ask for what was read, and what is
-- written of it is no longer than what was read. So the writer gives its bytes. Assumes nothing.
use Prim.Native.Nat.{ℕ, ◌+◌, ◌*◌, ◌≤◌}
use mathlib.Core.Path.{◌≡◌, refl, sym, ap, ◌∙◌, subst}
use mathlib.Core.Bool.{Bool, true, false}
use mathlib.Core.List.{List, []}
use native.Mathlib.Omega.{arith}
use borrow.Author.Tests.{le-leb}
use lib.IntN.{pos}
use lib.ListN.{length, replicate, length-replicate}
use Rattle.numbers.specs.Bytes.{Bytes}
use Rattle.primitives.specs.Stands.{Stands}
use Rattle.primitives.specs.Step.{ok, map_step}
use Rattle.records.specs.Format.{Record}
use Rattle.records.specs.Judgement.{RecordSpans}
use Rattle.records.specs.Rows.{headers_in, Tables, tables}
use Rattle.records.specs.Statements.{Each}
use Rattle.records.proofs.Inside.{RecordInside, records_inside}
use Rattle.records.proofs.Writable.{run_writable}
use Rattle.asking.specs.Asked.{RowPlace, row_place}
use Rattle.asking.proofs.Own.{own_rows}
use Rattle.writing.specs.Answers.{given}
use Rattle.layout.specs.Batch.{Content, control, records, Batch}
use Rattle.layout.specs.Format.{grammar_of, ContentBytes, BatchBytes, Grammar, BatchBytesWith}
use Rattle.opening.specs.Judgement.{accepted, Accepted, judge}
use Rattle.layout.specs.declared.ControlMode.{ControlMode}
use Rattle.markers.proofs.Forms.{forms_lawful}
use Rattle.batches.specs.Placed.{placed_content, shown_content, shown_batch}
use Rattle.batches.specs.Answers.{rooms_of, has_room, stored}
use Rattle.batches.specs.Writer.{batch_length_of, written_batch, wanted_of, content_asked, most_length, batch_given, own_tables}
use Rattle.batches.specs.Request.{InWidth}
use Rattle.batches.proofs.Encodes.{WritableContent, shown_encodes}
use Rattle.batches.proofs.Only.{batch_short, written_shortest}
use Rattle.batches.proofs.Parts.{parts_stand}
use Rattle.batches.proofs.Rooms.{is_room}
use Rattle.batches.proofs.Sound.{sound}
use Rattle.batches.proofs.Storing.{room_is}

-- ---- the marker, or the records

-- spans that lie in the list
abbrev ContentInside : List ℕ → Content RecordSpans → Type 0
ContentInside s (control m) = Unit {0}
ContentInside s (records rs) = Each (RecordInside s) rs

content_inside : (mode : ControlMode) (strict : Bool) {s : List ℕ} {p q : ℕ} {bs : List ℕ} (v : Content Record) → Stands s p q bs → (g : ContentBytes (grammar_of mode) strict bs v)
    → ContentInside s (placed_content (grammar_of mode) strict bs v p g)
content_inside mode strict (control m) x g = tt
content_inside mode strict (records rs) x g = records_inside x g

content_writable : (mode : ControlMode) (strict : Bool) (bs : List ℕ) (v : Content Record) → ContentBytes (grammar_of mode) strict bs v → WritableContent mode v
content_writable mode strict bs (control m) g = ((forms_lawful mode).shortest strict bs m g).0
content_writable mode strict bs (records rs) g = run_writable strict bs rs g

-- ---- an accepted batch

-- what is written of the batch that it shows
abbrev pub rewritten : List ℕ → Accepted → List ℕ
rewritten s b = written_batch (shown_batch s b)

pub record Own (mode : ControlMode) (s : List ℕ) (b : Accepted) : Type 0 where
  pub inside : ContentInside s b.content
  pub writable : WritableContent mode (shown_batch s b).content
  pub short : batch_length_of (shown_batch s b) ≤ most_length
  pub encodes : BatchBytes mode true (rewritten s b) (shown_batch s b)
  pub within : length (rewritten s b) ≤ b.consumed
  pub first : b.first_header ≡ 0

pub in_width : {grammar : Grammar} {strict : Bool} {bs : List ℕ} {b : Batch Record} → BatchBytesWith grammar strict bs b → InWidth b.fields
in_width g =
    record {
      base_offset = g.base_offset.fits;
      partition_leader_epoch = g.partition_leader_epoch.fits;
      last_offset_delta = g.last_offset_delta.fits;
      first_timestamp = g.first_timestamp.fits;
      max_timestamp = g.max_timestamp.fits;
      producer_id = g.producer_id.fits;
      producer_epoch = g.producer_epoch.fits;
      base_sequence = g.base_sequence.fits;
    }

pub own : (mode : ControlMode) (s : List ℕ) (b : Accepted) → Bytes s → judge mode s ≡ accepted b → Own mode s b
own mode s b bytes j =
    let (e, is) = sound mode s 0 0 b bytes j in
    let x = e.stands in
    let g = e.encodes in
    let content = shown_content s b.content in
    let writable = content_writable mode false g.body content g.holds in
    let again = shown_encodes mode s b.fields b.content bytes writable (in_width g) (batch_short mode g) in
    record {
      inside =
          subst (ContentInside s) (ap (λ (a : Accepted). a.content) (sym is))
          (content_inside mode false content (parts_stand x g).body g.holds);
      writable = writable;
      short = batch_short mode g;
      encodes = again;
      within = omega (arith, written_shortest mode false _ _ _ again g, x.end);
      first = ap (λ (a : Accepted). a.first_header) is;
    }

-- ---- asked for from its rows

content_asked_lem : (mode : ControlMode) (s : List ℕ) (c : Content RecordSpans) (t : Tables) → ContentInside s c
    → WritableContent mode (shown_content s c) → has_room c 0 (rooms_of t) ≡ true
    → (p : RowPlace) × (content_asked mode (wanted_of c) (stored c 0 t) s ≡ ok c p)
content_asked_lem mode s (control m) t i w room = (row_place 0 0, rw w)
content_asked_lem mode s (records rs) t i w room =
    (row_place (length rs) (0 + headers_in rs), ap (map_step records) (own_rows 0 rs t s (sym (room_is 0 rs t) ∙ room) i))

pub own_given : {mode : ControlMode} {s : List ℕ} {b : Accepted} (t : Tables) → Own mode s b → has_room b.content 0 (rooms_of t) ≡ true
    → batch_given mode b.fields 0 (wanted_of b.content) (stored b.content 0 t) s ≡ given (rewritten s b)
unfolding batch_given
own_given {mode} {s} {b} t o room =
    rw ((content_asked_lem mode s b.content t o.inside o.writable room).1, le-leb (batch_length_of (shown_batch s b)) most_length o.short)

-- ---- and from tables of just its rows

-- their length, before the rows are put in
abbrev blank : Content RecordSpans → Tables
blank (control m) = tables [] []
blank (records rs) = tables (replicate (8 * length rs) (pos 0)) (replicate (4 * headers_in rs) (pos 0))

blank_room : (c : Content RecordSpans) → has_room c 0 (rooms_of (blank c)) ≡ true
blank_room (control m) = refl
blank_room (records rs) =
    is_room rs 0 (rooms_of (blank (records rs))) (simp length-replicate (omega arith)) (simp length-replicate (omega arith))

own_stored : (c : Content RecordSpans) → stored c 0 (blank c) ≡ own_tables c
own_stored (control m) = refl
own_stored (records rs) = refl

pub own_tables_given : {mode : ControlMode} {s : List ℕ} {b : Accepted} → Own mode s b
    → batch_given mode b.fields 0 (wanted_of b.content) (own_tables b.content) s ≡ given (rewritten s b)
own_tables_given {mode} {s} {b} o =
    ap (λ (t : Tables). batch_given mode b.fields 0 (wanted_of b.content) t s) (sym (own_stored b.content))
    ∙ own_given (blank b.content) o (blank_room b.content)
