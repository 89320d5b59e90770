-- `listing::entry_of` meets its contract. Assumes nothing.
use borrow.Author.Rules.{rules}
use Rattle.listing.proofs.Entries.{accepted_entry, more_entry, refused_entry, room_entry}
use Rattle.listing.proofs.entry_of.Goals as goal

pub returns-in-Ok : goal.returns-in-Ok
returns-in-Ok c = search (accepted_entry, rules)

pub returns-in-Err-MoreBytes : goal.returns-in-Err-MoreBytes
returns-in-Err-MoreBytes c = search (more_entry, rules)

pub returns-in-Err-Refused : goal.returns-in-Err-Refused
returns-in-Err-Refused c = search (refused_entry, rules)

pub returns-in-Err-NoRoom : goal.returns-in-Err-NoRoom
returns-in-Err-NoRoom c = search (room_entry, rules)
