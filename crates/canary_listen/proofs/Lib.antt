mod Attended
mod CrowdMaps
