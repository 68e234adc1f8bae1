mod FilesAsked
mod LogAsked
mod Matched
mod Told
