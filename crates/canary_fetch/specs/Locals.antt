-- Which errors of the system are faults of this machine, by the numbers of Linux.
use Rattle.std.specs.Prelude.{ℕ, ℤ, Bool, true, false, ◌||◌, ◌==◌, if◌then◌else◌, unsigned_abs, Option, Some, None, unwrap_or}
use Rattle.canary_fetch.specs.declared.fault.ExchangeFault.{ExchangeFault}
use Rattle.canary_fetch.specs.declared.fault.ExchangeFault.TheVariants.{Refused, Timeout, Cut, TooLong, NotHttp, Coded, Memory as NoMemory, Local}
use Rattle.canary_fetch.specs.declared.local.LocalFault.{LocalFault}
use Rattle.canary_fetch.specs.declared.local.LocalFault.TheVariants.{Descriptors, Memory, Ports, Forbidden, Network, Protocol, Crowd}

-- the number of an error of the system; 0 of any other
abbrev pub code_of : Option ℤ → ℕ
code_of None = 0
code_of (Some code) = unsigned_abs code

-- ENOMEM, ENOBUFS
abbrev pub is_exhausted : ℕ → Bool
is_exhausted code = code == 12 || code == 105

-- EMFILE and ENFILE; these two, EAGAIN and ENOSPC; EADDRNOTAVAIL; EPERM and EACCES; ENETUNREACH and
-- ENETDOWN; EAFNOSUPPORT and EPROTONOSUPPORT
abbrev pub local_fault : ℕ → Option LocalFault
local_fault code =
    if code == 24 || code == 23 then Some Descriptors
    else (if is_exhausted code || code == 11 || code == 28 then Some Memory
    else (if code == 99 then Some Ports
    else (if code == 1 || code == 13 then Some Forbidden
    else (if code == 101 || code == 100 then Some Network
    else (if code == 97 || code == 93 then Some Protocol else None)))))

-- the fault of a message that is late: only one with a connection waited for its provider. Another
-- one has the last fault of this machine, or others had all connections
abbrev pub late_fault : Bool → Option LocalFault → ExchangeFault
late_fault is_begun hindrance =
    if is_begun then Timeout else Local (unwrap_or hindrance Crowd)

-- a fault of this machine, which says nothing of the provider
abbrev pub is_local : ExchangeFault → Bool
is_local Refused = false
is_local Timeout = false
is_local Cut = false
is_local TooLong = false
is_local NotHttp = false
is_local Coded = false
is_local NoMemory = true
is_local (Local why) = true
