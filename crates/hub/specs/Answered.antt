-- What a result answers: the refusal's number, or 0 with the value.
use Rattle.std.specs.Prelude.{ℕ, Bool, cond, Result, Ok, Err}
use Rattle.device.specs.declared.Reply.{Reply}
use Rattle.device.specs.declared.SectionAnswer.{SectionAnswer}
use Rattle.device.specs.declared.SectionReply.{SectionReply}
use Rattle.device.specs.Sections.{no_section}
use Rattle.hub.specs.declared.reasons.Refusal.{Refusal}
use Rattle.hub.specs.declared.reasons.Refusal.TheVariants.{BadSetting, BadRegion, NoSuchPeer, NotConnected, Connected, BadWidth}
use Rattle.hub.specs.declared.reasons.Refusal.TheVariants.{Misaligned, OutOfRange, ReadOnly, UnsoundHub, ShortTable}

-- each refusal's number, which is that of its row
abbrev pub number_of : Refusal → ℕ
number_of BadSetting = 1
number_of BadRegion = 2
number_of NoSuchPeer = 3
number_of NotConnected = 4
number_of Connected = 5
number_of BadWidth = 6
number_of Misaligned = 7
number_of OutOfRange = 8
number_of ReadOnly = 9
number_of UnsoundHub = 10
number_of ShortTable = 11

-- 0 where nothing is refused
abbrev pub number_in : {A : Type 0} → Result A Refusal → ℕ
number_in (Ok x) = 0
number_in (Err e) = number_of e

-- the value that a result has for a reply; a refusal has value 0
abbrev pub reply_by : {A : Type 0} → (A → ℕ) → Result A Refusal → Reply
reply_by value (Ok x) = record { number = 0; value = value x }
reply_by value (Err e) = record { number = number_of e; value = 0 }

-- a value that was read
abbrev pub value_reply : Result ℕ Refusal → Reply
value_reply r = reply_by (λ x. x) r

-- 1 for yes
abbrev pub flag_reply : Result Bool Refusal → Reply
flag_reply r = reply_by (λ b. cond b 1 0) r

-- nothing is read
abbrev pub done_reply : {A : Type 0} → Result A Refusal → Reply
done_reply r = reply_by (λ x. 0) r

-- a refused question names no section and says no
abbrev pub section_reply : Result SectionAnswer Refusal → SectionReply
section_reply (Ok a) = record { reply = record { number = 0; value = 0 }; section = a }
section_reply (Err e) = record { reply = record { number = number_of e; value = 0 }; section = no_section }
