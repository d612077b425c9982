-- Messages in HTTP/1.1 (RFC 9112). The desk ignores the field `Host`, and a proxy asks for one.
use Rattle.std.specs.Prelude.{ℕ, List, ◌++◌, length, codes, decimal}

abbrev pub request_text : List ℕ → ℕ → List ℕ → List ℕ
request_text caller number body =
    codes "PUT /callers/"
    ++ (caller
    ++ (codes "/requests/"
    ++ (decimal number
    ++ (codes " HTTP/1.1\r\nHost: desk\r\nConnection: close\r\nContent-Length: "
    ++ (decimal (length body) ++ (codes "\r\n\r\n" ++ body))))))

abbrev pub query_text : List ℕ → List ℕ
query_text path =
    codes "GET " ++ (path ++ codes " HTTP/1.1\r\nHost: desk\r\nConnection: close\r\n\r\n")
