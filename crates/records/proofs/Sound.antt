-- What stands at a place is what its spans show, so what was found there is an encoding of what was read.
-- Assumes nothing.
use Prim.Native.Nat.{ℕ, ◌≤◌}
use mathlib.Core.Path.{◌≡◌, sym, ap, ◌∙◌, subst}
use mathlib.Core.List.{List}
use native.Mathlib.Nat.{le_refl}
use lib.ListN.{length}
use Rattle.primitives.specs.Stands.{Stands, Encoding}
use Rattle.primitives.proofs.Steps.{times_count}
use Rattle.records.specs.Judgement.{record_at, run_at}
use Rattle.records.specs.Placed.{shown_header, shown_record, shown_records}
use Rattle.records.specs.Statements.{HeaderSound, RecordSound, RunSound, RecordsSound}
use Rattle.records.proofs.Ends.{records_run}
use Rattle.records.proofs.Found.{Found, times_found, times_within, header_found, record_found}
use Rattle.records.proofs.Shows.{header_shows, record_shows, records_shows}

found_shown : {A R : Type 0} {G : List ℕ → A → Type 0} {place : (x : List ℕ) (a : A) → ℕ → G x a → R} {s : List ℕ} {p : ℕ} {x : R} {q : ℕ}
    (show : R → A) → ((bs : List ℕ) (a : A) → Stands s p q bs → (g : G bs a) → show (place bs a p g) ≡ a) → Found G place s p x q
    → (e : Encoding G s p q (show x)) × (x ≡ place e.bytes (show x) p e.encodes)
found_shown {A} {G = G} {place} {s} {p} {x} {q} show shows f =
    subst (λ (a : A). (e : Encoding G s p q a) × (x ≡ place e.bytes a p e.encodes))
    (sym (shows f.bytes f.value f.stands f.encodes) ∙ ap show (sym f.placed))
    (record { bytes = f.bytes; stands = f.stands; encodes = f.encodes }, f.placed)

pub header_sound : HeaderSound
header_sound s p h q b e = found_shown (shown_header s) (λ bs h. header_shows) (header_found s b p h q e)

pub record_sound : RecordSound
record_sound s p r q b e = found_shown (shown_record s) (λ bs r. record_shows) (record_found s b p r q e)

pub run_sound : RunSound
unfolding run_at
run_sound s count p rs q b h e =
    let f = times_found (record_at s) (record_found s b) count p h e in
    let (t, w) = found_shown (shown_records s) (λ bs rs. records_shows) f.0 in
    (t, w, times_count (record_at s) count p e)

pub records_sound : RecordsSound
unfolding run_at
records_sound s count p rs q b e =
    let (i, w) = records_run s count p e in
    let h : p ≤ length s = times_within (record_at s) (record_found s b) count p (rw w (le_refl (length s))) i in
    let (t, v, l) = run_sound s count p rs q b h i in
    (t, v, l, w)
